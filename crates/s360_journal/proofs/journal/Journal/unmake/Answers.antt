use Rattle.std.proofs.Common.{◌<◌, length}
use Rattle.s360_journal.proofs.SessionLemmas.{last-can, last-room, led-from}
use Rattle.s360_journal.proofs.journal.Journal.unmake.Goals as goal

pub unmake_last-requires-clause-can : goal.unmake_last-requires-clause-can
unmake_last-requires-clause-can c =
    let history = rw (← c.self.view_is) at c.requires.led
    in let some : 0 < length c.self.inside.changes = rw (← c.self.view_is) at c.requires.some
    in last-can c.self.inside.machine.whole history.0 c.self.inside.changes history.1 some

pub unmake_last-requires-clause-room : goal.unmake_last-requires-clause-room
unmake_last-requires-clause-room c =
    let history = rw (← c.self.view_is) at c.requires.led
    in let some : 0 < length c.self.inside.changes = rw (← c.self.view_is) at c.requires.some
    in last-room c.self.inside.machine.whole history.0 c.self.inside.changes _ history.1 some

pub returns : goal.returns
returns c =
    rw (← c.self.view_is) (led-from c.self.inside.machine.whole c.unmake_last.new.machine.whole c.self.inside.changes c.unmake_last.new.changes c.unmake_last.ensures.machine c.unmake_last.ensures.changes)
