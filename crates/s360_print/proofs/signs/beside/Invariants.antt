use Rattle.std.proofs.Common.{◌≡◌, drop, zip}
use Rattle.s360_model.specs.Tables.{entry_in}
use Rattle.s360_print.proofs.signs.beside.Given as goal

abbrev pub invariant-loop-i : goal.invariant-loop-i
invariant-loop-i l = entry_in (zip l.first l.second) l.byte ≡ entry_in (zip (drop l.i l.first) (drop l.i l.second)) l.byte
