use Rattle.std.proofs.Common.{◌≡◌, ◌-◌, length}
use Rattle.s360_logic.specs.LeftToRight.{combined, combined_byte, left_to_right}
use Rattle.s360_logic.specs.Operands.{stored_in}
use Rattle.s360_logic.proofs.left_to_right.combine_in_turn.Given as goal

abbrev pub invariant-loop-i : goal.invariant-loop-i
invariant-loop-i l = record {
  rest : left_to_right (combined_byte l.combination l.fn.operand.address l.second) l.fn.operand.address l.i (length l.fn.operand.bytes - l.i) (stored_in l.operand) ≡ combined l.combination l.fn.operand.address l.second (length l.fn.operand.bytes) (stored_in l.fn.operand);
  storage : l.operand.storage ≡ l.fn.operand.storage;
  address : l.operand.address ≡ l.fn.operand.address;
  count : length l.operand.bytes ≡ length l.fn.operand.bytes;
}
