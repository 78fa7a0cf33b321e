use Rattle.std.proofs.Common.{◌≡◌, ◌≤◌, ◌∙◌, ◌+◌, sym, arith, length, refl, rules, length-set}
use Rattle.s360_store.specs.declared.protection.Checked.TheVariants.{Addressing}
use Rattle.s360_logic.specs.Bytes.{byte_at}
use Rattle.s360_logic.specs.LeftToRight.{function_access, function_address, translated_byte}
use Rattle.s360_logic.specs.Operands.{stored_in}
use Rattle.s360_logic.proofs.FieldLemmas.{left_to_right-set}
use Rattle.s360_logic.proofs.StepLemmas.{function_access-stored, met-more, met_of_both-outside, translate_access-met, translate_access-set}
use Rattle.s360_logic.proofs.left_to_right.translate_in_turn.Goals as goal
use Rattle.s360_logic.proofs.left_to_right.translate_in_turn.Goals.{After-check_byte-one}

-- the operand as it stands is inside storage
inside : (c : After-check_byte-one) → c.loop-i.operand.address + length c.loop-i.operand.bytes ≤ length c.loop-i.operand.storage.bytes
inside c =
    let i = c.loop-i.invariant
    in rw (i.address, i.count, i.storage) (omega (arith, c.len-i-end.ensures.inside, c.len-i-end.ensures.len))

-- the address that the byte selects, and what its fetch meets
selected : (c : After-check_byte-one) → c.function_address-selected.result ≡ function_address c.args.table (byte_at (stored_in c.loop-i.operand) (c.args.operand.now.address + c.loop-i.i))
selected c = rw (c.function_address-selected.ensures, c.byte-argument.ensures, c.address.ensures, c.loop-i.invariant.address) refl

met : (c : After-check_byte-one) → c.check_byte-one.result ≡ function_access c.args.table c.args.key (c.args.operand.now.address + c.loop-i.i) (stored_in c.loop-i.operand)
met c =
    function_access-stored c.args.table c.args.key (c.args.operand.now.address + c.loop-i.i) c.function_address-selected.result c.loop-i.operand c.args.storage.now c.check_byte-one.result (inside c)
    (c.loop-i.invariant.storage ∙ sym c.requires.storage) (selected c) c.check_byte-one.ensures.met

pub returns-then-eq-clause-met : goal.returns-then-eq-clause-met
returns-then-eq-clause-met c =
    let one = (goal.at.returns-then-eq-clause-met c).After-check_byte-one
    in let outside : c.check_byte-one.result ≡ Addressing = search rules
    in sym (met_of_both-outside c.loop-i.met _ (translate_access-met c.args.table c.args.key c.args.operand.now.address c.loop-i.i (length c.args.operand.now.bytes) (stored_in c.loop-i.operand) (omega arith) (sym (met one) ∙ outside)))
    ∙ c.loop-i.invariant.met

pub loop-i-preserved : goal.loop-i-preserved
loop-i-preserved c =
    let one = (goal.at.loop-i-preserved c).After-check_byte-one
    in let o = c.loop-i.operand
    in let i = c.loop-i.invariant
    in let a = c.args.operand.now.address
    in let n = length c.args.operand.now.bytes
    in let byte : c.byte.result ≡ translated_byte c.args.table a c.loop-i.i (stored_in o) = rw (c.byte.ensures, selected one) refl
    in rw c.set.ensures (record {
      rest = left_to_right-set (translated_byte c.args.table a) a c.loop-i.i n c.byte.result o (omega arith) i.count i.address (rw i.storage (omega (arith, c.len-i-end.ensures.inside, c.len-i-end.ensures.len))) byte ∙ i.rest;
      met = met-more c.loop-i.met c.check_byte-one.result _ _ _ c.and-met.result c.and-met.ensures (met one)
          (translate_access-set c.args.table c.args.key a c.loop-i.i n c.byte.result o (omega arith) i.count i.address (inside one) byte) ∙ i.met;
      storage = i.storage;
      address = i.address;
      count = length-set o.bytes c.loop-i.i c.byte.result ∙ i.count;
    })
