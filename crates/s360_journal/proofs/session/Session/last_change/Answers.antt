use Rattle.std.proofs.Common.{◌∙◌, ap, sym, length, ◌-◌, slice_get}
use Rattle.s360_machine.specs.Machine.{seen}
use Rattle.s360_journal.specs.Recorded.{standing_events}
use Rattle.s360_journal.proofs.IndexLemmas.{last_change_of-last}
use Rattle.s360_journal.proofs.session.Session.last_change.Goals as goal

pub returns : goal.returns
returns c =
    c.copied.ensures ∙ c.last.ensures.value ∙ ap (λ ns. slice_get ns (length ns - 1)) c.changes_of.ensures
    ∙ sym (last_change_of-last 1 (seen c.args.self.now.start) (standing_events c.args.self.now) c.args.place)
