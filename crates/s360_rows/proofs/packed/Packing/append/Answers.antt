use Rattle.std.proofs.Common.{sym, subst}
use Rattle.s360_machine.specs.Change.{CanSwap}
use Rattle.s360_machine.specs.Machine.{Whole}
use Rattle.s360_journal.proofs.SessionLemmas.{found-last}
use Rattle.s360_rows.proofs.packed.Packing.append.Goals as goal

pub swap-requires-clause-can : goal.swap-requires-clause-can
swap-requires-clause-can c =
    let x = c.in_ok-changes.changes
    in let can : CanSwap c.room.new.self.whole x = subst (λ (k : Whole). CanSwap k x) (sym c.room.ensures.whole) c.in_ok-changes.ensures.ok.can
    in rw (found-last c.args.self.now.changes c.append.new.self x c.len-number.result c.in-Ok.ensures.ok c.len-number.ensures.len) can

pub swap-requires-clause-room : goal.swap-requires-clause-room
swap-requires-clause-room c =
    rw (found-last c.args.self.now.changes c.append.new.self c.in_ok-changes.changes c.len-number.result c.in-Ok.ensures.ok c.len-number.ensures.len) c.in_ok-room.ensures.ok
