use Rattle.std.proofs.Common.{◌≡◌, ◌∙◌, ap, arith, length}
use Rattle.s360_logic.specs.Bytes.{operand_bytes}
use Rattle.s360_logic.proofs.FieldLemmas.{stored_in-first}
use Rattle.s360_logic.proofs.first_operand.FirstOperand.new.Goals as goal

items : (c : goal.After-unwrap) → c.unwrap.result.items ≡ operand_bytes c.args.storage.now c.args.field.address c.args.field.count
items c = (rw c.unwrap.ensures at c.try_from.ensures).0 ∙ c.bytes-bytes.ensures.bytes

pub invariant_of-result : goal.invariant_of-result
invariant_of-result c =
    let count : length c.unwrap.result.items ≡ c.args.field.count = ap length (rw c.unwrap.ensures at c.try_from.ensures).0 ∙ c.bytes-bytes.ensures.count
    in (omega (arith, count, c.requires.inside), omega (arith, c.size.ensures.size, c.size.ensures.below))

pub returns-clause-unaltered : goal.returns-clause-unaltered
returns-clause-unaltered c = rw (items c) (stored_in-first c.args.storage.now c.args.field.address c.args.field.count c.requires.inside)
