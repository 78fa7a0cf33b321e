use Rattle.std.proofs.Common.{◌≡◌, ◌*◌, length}
use Rattle.arrayvec.specs.ArrayVec.{array_vec_len}
use Rattle.s360_model.specs.Core.{core_with_bytes}
use Rattle.s360_fixed.specs.Storing.{with_registers_stored}
use Rattle.s360_fixed.proofs.puts.put_words.Given as goal

abbrev pub invariant-loop-i : goal.invariant-loop-i
invariant-loop-i g l = record {
  stored : core_with_bytes l.words.address l.bytes.items (g.P.Puts.made l.puts l.view.core) ≡ with_registers_stored l.view.core.registers l.words.r1 l.words.address l.i (g.P.Puts.made l.puts l.view.core);
  count : length l.bytes.items ≡ 4 * l.i;
  held : array_vec_len l.bytes ≡ 4 * l.i;
}
