use Rattle.std.proofs.Common.{◌≡◌, ◌≢◌, ◌∙◌, ◌+◌, ap, arith, refl, rules, sym}
use Rattle.s360_store.specs.declared.protection.Checked.TheVariants.{Addressing}
use Rattle.s360_store.specs.Protection.{met_of_both}
use Rattle.s360_logic.specs.Bytes.{byte_at}
use Rattle.s360_logic.specs.LeftToRight.{function_access, function_address, function_byte}
use Rattle.s360_logic.proofs.StepLemmas.{found_at-met, found_at-step, met-more, met_of_both-outside, search_access-end, search_access-met, search_access-step}
use Rattle.s360_logic.proofs.left_to_right.search.Goals as goal
use Rattle.s360_logic.proofs.left_to_right.search.Goals.{After-check_byte-one}

-- the address that a byte selects, and what its fetch meets
selected : (c : After-check_byte-one) → c.function_address-selected.result ≡ function_address c.args.table (byte_at c.args.storage.now (c.args.field.address + c.loop-i.i))
selected c = rw (c.function_address-selected.ensures, c.byte.ensures) refl

met : (c : After-check_byte-one) → c.check_byte-one.result ≡ function_access c.args.table c.args.key (c.args.field.address + c.loop-i.i) c.args.storage.now
met c = rw (c.check_byte-one.ensures.met, selected c) refl

pub returns-then-eq-clause-met : goal.returns-then-eq-clause-met
returns-then-eq-clause-met c =
    let outside : c.check_byte-one.result ≡ Addressing = search rules
    in sym (met_of_both-outside c.loop-i.met _ (search_access-met c.args.table c.args.key c.args.field.address c.loop-i.i c.args.field.count c.args.storage.now (omega arith) (sym (met (goal.at.returns-then-eq-clause-met c).After-check_byte-one) ∙ outside)))
    ∙ c.loop-i.invariant.met

pub returns-then-function_byte-ne0-clause-met : goal.returns-then-function_byte-ne0-clause-met
returns-then-function_byte-ne0-clause-met c =
    let one = (goal.at.returns-then-function_byte-ne0-clause-met c).After-check_byte-one
    in let byte : c.byte-function_byte.result ≡ function_byte c.args.table (c.args.field.address + c.loop-i.i) c.args.storage.now = rw (c.byte-function_byte.ensures, selected one) refl
    in let other : function_byte c.args.table (c.args.field.address + c.loop-i.i) c.args.storage.now ≢ 0 = λ z. c.if-function_byte-ne0.true (byte ∙ z)
    in c.and-met.ensures ∙ ap (met_of_both c.loop-i.met) (met one ∙ search_access-end c.args.table c.args.key c.args.field.address c.loop-i.i c.args.field.count c.args.storage.now (omega arith) other)
    ∙ c.loop-i.invariant.met

pub returns-then-function_byte-ne0-clause-found : goal.returns-then-function_byte-ne0-clause-found
returns-then-function_byte-ne0-clause-found c =
    let one = (goal.at.returns-then-function_byte-ne0-clause-found c).After-check_byte-one
    in let byte : c.byte-function_byte.result ≡ function_byte c.args.table (c.args.field.address + c.loop-i.i) c.args.storage.now = rw (c.byte-function_byte.ensures, selected one) refl
    in let other : function_byte c.args.table (c.args.field.address + c.loop-i.i) c.args.storage.now ≢ 0 = λ z. c.if-function_byte-ne0.true (byte ∙ z)
    in λ no. sym (found_at-met c.args.table c.args.field.address c.loop-i.i c.args.field.count c.args.storage.now (omega arith) other) ∙ c.loop-i.invariant.found

pub loop-i-preserved : goal.loop-i-preserved
loop-i-preserved c =
    let one = (goal.at.loop-i-preserved c).After-check_byte-one
    in let byte : c.byte-function_byte.result ≡ function_byte c.args.table (c.args.field.address + c.loop-i.i) c.args.storage.now = rw (c.byte-function_byte.ensures, selected one) refl
    in let zero : function_byte c.args.table (c.args.field.address + c.loop-i.i) c.args.storage.now ≡ 0 = sym byte ∙ c.if-function_byte-ne0.false
    in record {
      found = found_at-step c.args.table c.args.field.address c.loop-i.i c.args.field.count c.args.storage.now (omega arith) zero ∙ c.loop-i.invariant.found;
      met = met-more c.loop-i.met c.check_byte-one.result _ _ _ c.and-met.result c.and-met.ensures (met one)
          (search_access-step c.args.table c.args.key c.args.field.address c.loop-i.i c.args.field.count c.args.storage.now (omega arith) zero) ∙ c.loop-i.invariant.met;
    }
