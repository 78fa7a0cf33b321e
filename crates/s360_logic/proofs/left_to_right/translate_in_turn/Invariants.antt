use Rattle.std.proofs.Common.{◌≡◌, ◌-◌, length}
use Rattle.s360_store.specs.Protection.{met_of_both}
use Rattle.s360_logic.specs.LeftToRight.{left_to_right, translate_access, translated_byte}
use Rattle.s360_logic.specs.Operands.{stored_in}
use Rattle.s360_logic.proofs.left_to_right.translate_in_turn.Given as goal

abbrev pub invariant-loop-i : goal.invariant-loop-i
invariant-loop-i l = record {
  rest : left_to_right (translated_byte l.table l.fn.operand.address) l.fn.operand.address l.i (length l.fn.operand.bytes - l.i) (stored_in l.operand) ≡ left_to_right (translated_byte l.table l.fn.operand.address) l.fn.operand.address 0 (length l.fn.operand.bytes) (stored_in l.fn.operand);
  met : met_of_both l.met (translate_access l.table l.key l.fn.operand.address l.i (length l.fn.operand.bytes - l.i) (stored_in l.operand)) ≡ translate_access l.table l.key l.fn.operand.address 0 (length l.fn.operand.bytes) (stored_in l.fn.operand);
  storage : l.operand.storage ≡ l.fn.operand.storage;
  address : l.operand.address ≡ l.fn.operand.address;
  count : length l.operand.bytes ≡ length l.fn.operand.bytes;
}
