use Rattle.std.proofs.Common.{◌≡◌, length}
use Rattle.s360_logic.specs.Operands.{stored_in}
use Rattle.s360_logic.proofs.RightToLeftLemmas.{HasMade}
use Rattle.s360_logic.proofs.right_to_left.make_digits.Given as goal

abbrev pub invariant-loop-i : goal.invariant-loop-i
invariant-loop-i l = record {
  made : HasMade (record { row = l.row; zone = l.zone; first = l.fn.first; second = l.second }) (stored_in l.fn.operand) l.i l.held (stored_in l.operand);
  storage : l.operand.storage ≡ l.fn.operand.storage;
  address : l.operand.address ≡ l.fn.first.address;
  count : length l.operand.bytes ≡ l.fn.first.count;
  n : l.count ≡ l.fn.first.count;
}
