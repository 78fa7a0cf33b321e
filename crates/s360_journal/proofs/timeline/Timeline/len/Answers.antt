use Rattle.std.proofs.Common.{arith}
use Rattle.std.proofs.lemmas.List.{length-reverse}
use Rattle.s360_journal.specs.Events.{events_of}
use Rattle.s360_journal.proofs.TimelineLemmas.{length_of_events}
use Rattle.s360_journal.proofs.timeline.Timeline.len.Goals as goal

pub returns : goal.returns
returns c =
    let past = length_of_events c.self.inside.tags.past c.self.inside.units.past c.self.inside.others.past c.self.invariant.0
    in let next = length_of_events c.self.inside.tags.next c.self.inside.units.next c.self.inside.others.next c.self.invariant.1
    in rw (← c.self.view_is) (omega (arith, c.len.ensures, past, next, length-reverse (events_of c.self.inside.tags.past c.self.inside.units.past c.self.inside.others.past)))
