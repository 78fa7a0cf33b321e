-- Operands that can be used.
use Rattle.std.proofs.Common.{◌≡◌, ℕ, ◌%◌, Bool, true, false, not, nat_eq, Option, None, Some, refl, sym, if◌then◌else◌, is_none}
use Rattle.s360_model.specs.Psw.{protection_key_of}
use Rattle.s360_model.specs.Storage.{word_at}
use Rattle.s360_store.specs.Protection.{access}
use Rattle.s360_store.specs.declared.protection.Access.TheVariants.{Fetch}
use Rattle.s360_store.specs.declared.protection.Checked.{Checked}
use Rattle.s360_store.specs.declared.protection.Checked.TheVariants.{Addressing, Clear, Protection}
use Rattle.s360_fixed.specs.declared.ended.Ended.TheVariants.{Program}
use Rattle.s360_fixed.specs.declared.program_code.ProgramCode.{ProgramCode}
use Rattle.s360_fixed.specs.declared.program_code.ProgramCode.TheVariants.{Specification, Addressing as addressing_code, Protection as protection_code}
use Rattle.s360_fixed.specs.declared.row.Combination.{Combination}
use Rattle.s360_fixed.specs.declared.row.PairCombination.{PairCombination}
use Rattle.s360_fixed.specs.declared.second_operand.SecondOperand.TheVariants.{InStorage}
use Rattle.s360_fixed.specs.declared.second_operand.Width.TheVariants.{Word}
use Rattle.s360_fixed.specs.Operands.{Operand, conditions_of, storage_operand, word_operand}
use Rattle.s360_fixed.specs.Outcomes.{combination_outcome, is_odd, pair_outcome}
use Rattle.s360_fixed.specs.ProgramCodes.{Conditions, program_code}
use Rattle.s360_fixed.specs.View.{View, Outcome}

-- one that can be used is as one in a register with its value
pub combination_outcome-used : (c : Combination) (v : View) (r1 n : ℕ) (s : Operand) → program_code s.conditions ≡ None → n ≡ s.value
    → combination_outcome c v r1 s ≡ combination_outcome c v r1 (word_operand n)
combination_outcome-used c v r1 n s none value = rw (none, value) refl

-- the conditions of an operand in storage, by its boundary and by what its access meets
abbrev conditions_met : Bool → Checked → Conditions
conditions_met off met = record (conditions_of met) { specification = off }

abbrev operand_met : Bool → Checked → ℕ → Operand
operand_met off met value = record { conditions = conditions_met off met; value = value }

-- with a pair, one that can be used is as one in a register
pair_outcome-met : (pair : PairCombination) (v : View) (r1 value : ℕ) (off : Bool) (met : Checked) → program_code (conditions_met off met) ≡ None
    → pair_outcome pair v r1 (operand_met off met value) ≡ pair_outcome pair v r1 (word_operand value)
pair_outcome-met pair v r1 value true met h = absurd (cc)
pair_outcome-met pair v r1 value false Addressing h = absurd (cc)
pair_outcome-met pair v r1 value false Protection h = absurd (cc)
pair_outcome-met pair v r1 value false Clear h = refl

pub pair_outcome-used : (pair : PairCombination) (v : View) (r1 n address : ℕ) → program_code (storage_operand v.core (InStorage Word) address).conditions ≡ None
    → n ≡ (storage_operand v.core (InStorage Word) address).value
    → pair_outcome pair v r1 (storage_operand v.core (InStorage Word) address) ≡ pair_outcome pair v r1 (word_operand n)
pair_outcome-used pair v r1 n address none value =
    rw value (pair_outcome-met pair v r1 (word_at v.core.storage.bytes address) (not (nat_eq (address % 4) 0)) (access v.core.storage address 4 Fetch (protection_key_of v.core.psw)) none)

-- and one that can't be used refuses the instruction, where the register is even
abbrev refused_with : View → ProgramCode → Outcome
refused_with v code = record { ended = Program code; core = v.core }

pair_outcome-unused : (pair : PairCombination) (v : View) (r1 value : ℕ) (off : Bool) (met : Checked) (code : ProgramCode) → is_odd r1 ≡ false → program_code (conditions_met off met) ≡ Some code
    → pair_outcome pair v r1 (operand_met off met value) ≡ refused_with v code
pair_outcome-unused pair v r1 value true met code even h = (let same : Specification ≡ code = cc in rw (even, ← same) refl)
pair_outcome-unused pair v r1 value false Addressing code even h = (let same : addressing_code ≡ code = cc in rw (even, ← same) refl)
pair_outcome-unused pair v r1 value false Protection code even h = (let same : protection_code ≡ code = cc in rw (even, ← same) refl)
pair_outcome-unused pair v r1 value false Clear code even h = absurd (cc)

pub pair_outcome-refused : (pair : PairCombination) (v : View) (r1 address : ℕ) (code : ProgramCode) → is_odd r1 ≡ false → program_code (storage_operand v.core (InStorage Word) address).conditions ≡ Some code
    → refused_with v code ≡ pair_outcome pair v r1 (storage_operand v.core (InStorage Word) address)
pair_outcome-refused pair v r1 address code even h =
    sym (pair_outcome-unused pair v r1 (word_at v.core.storage.bytes address) (not (nat_eq (address % 4) 0)) (access v.core.storage address 4 Fetch (protection_key_of v.core.psw)) code even h)

-- a register that has a partner is even
pub even-from : (odd : Bool) (r : ℕ) (partner : Option ℕ) → partner ≡ (if odd then None else Some r) → is_none partner ≡ false → odd ≡ false
even-from false r partner e h = refl
even-from true r partner e h = absurd (let none : is_none partner ≡ true = rw e refl in cc)
