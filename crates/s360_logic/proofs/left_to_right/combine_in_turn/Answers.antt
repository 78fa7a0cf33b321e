use Rattle.std.proofs.Common.{◌≡◌, ◌∙◌, arith, length, refl, length-set}
use Rattle.s360_logic.specs.LeftToRight.{combined_byte}
use Rattle.s360_logic.specs.Operands.{stored_in}
use Rattle.s360_logic.proofs.FieldLemmas.{left_to_right-set}
use Rattle.s360_logic.proofs.left_to_right.combine_in_turn.Goals as goal

pub loop-i-preserved : goal.loop-i-preserved
loop-i-preserved c =
    let i = c.loop-i.invariant
    in let byte : c.of-result.result ≡ combined_byte c.args.combination c.args.operand.now.address c.args.second c.loop-i.i (stored_in c.loop-i.operand)
    = rw (c.of-result.ensures, c.byte-byte.ensures, c.byte.ensures, c.address.ensures, i.address) refl
    in rw c.set.ensures (record {
      rest = left_to_right-set (combined_byte c.args.combination c.args.operand.now.address c.args.second) c.args.operand.now.address c.loop-i.i (length c.args.operand.now.bytes) c.of-result.result c.loop-i.operand
          (omega arith) i.count i.address (rw i.storage (omega (arith, c.len-i-end.ensures.inside, c.len-i-end.ensures.len))) byte ∙ i.rest;
      storage = i.storage;
      address = i.address;
      count = length-set c.loop-i.operand.bytes c.loop-i.i c.of-result.result ∙ i.count;
    })
