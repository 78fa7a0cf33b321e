-- Rows of a pair of registers, branches and shifts do what their definitions say.
use Rattle.std.proofs.Common.{ℕ, ◌+◌, ◌%◌, ◌≡◌, ◌∙◌, ◌||◌, Bool, true, false, cond, Option, Some, None, refl, ap, sym, get_or}
use Rattle.std.proofs.Common.{nat_eq}
use Rattle.std.specs.Prelude.{is_none}
use Rattle.s360_model.specs.Arithmetic.{signed_sum, word_of}
use Rattle.s360_model.specs.{Core.Core, Numbers.signed}
use Rattle.s360_psw.specs.declared.instruction_length.InstructionLength.{InstructionLength}
use Rattle.s360_store.specs.declared.place.Place.TheVariants.{Register}
use Rattle.s360_fixed.specs.declared.{ended.Ended.Ended, setting.CodeSetting.CodeSetting}
use Rattle.s360_fixed.specs.declared.program_code.ProgramCode.TheVariants.{FixedPointDivide}
use Rattle.s360_fixed.specs.declared.row.{Branch.Branch, IndexBranch.IndexBranch, PairCombination.PairCombination, Shift.Shift}
use Rattle.s360_fixed.specs.Alterations.{after_alteration, no_register, one_register, register_pair, unchanged}
use Rattle.s360_fixed.specs.Branching.{branch_outcome, comparand_of, count_less_one, index_outcome, link_of, register_target}
use Rattle.s360_fixed.specs.Outcomes.{is_odd, pair_alteration, pair_outcome, pair_result, unless_met}
use Rattle.s360_fixed.specs.ProgramCodes.{Conditions, program_code}
use Rattle.s360_fixed.specs.Rows.{is_taken}
use Rattle.s360_fixed.specs.Shifting.{pair_shift_outcome, register_pair_conditions, shift_outcome, shifted_words}
use Rattle.s360_fixed.specs.View.{Outcome, View}
use Rattle.s360_machine.specs.Machine.{Machine}
use Rattle.s360_footprint.specs.Altering.{altered_in, altering_row, happened, unless_refused, view_in, with_outcome}
use Rattle.s360_footprint.specs.OperandReadings.{OperandReading, operand_in}
use Rattle.s360_footprint.specs.Readings.{Reading, bind, done, run, value_read}
use Rattle.s360_footprint.specs.RegisterRows.{address_taken, branch_altering, branch_row, comparand_register, first_word, index_altering, index_row}
use Rattle.s360_footprint.specs.RegisterRows.{pair_altering, pair_made, pair_read, pair_row, pair_shift_altering, pair_shift_row, second_word, shift_altering}
use Rattle.s360_footprint.specs.RegisterRows.{shift_row, target_read, unless_divided}
use Rattle.s360_footprint.specs.Rows.{Row}
use Rattle.s360_footprint.proofs.AlteringLemmas.{altering-as, happened-bind, refused-or}
use Rattle.s360_footprint.proofs.ReadingLemmas.{run-bind}

-- what a pair becomes
pair-is : (pair : PairCombination) (r1 : ℕ) (second : Reading ℕ) (m : Machine)
    → run (pair_read pair r1 second) m ≡ pair_result pair (get_or m.core.registers r1 0) (get_or m.core.registers (r1 + 1) 0) (run second m)
pair-is PairCombination.Product r1 second m = run-bind second (λ b. done (pair_result PairCombination.Product 0 (get_or m.core.registers (r1 + 1) 0) b)) m
pair-is PairCombination.Quotient r1 second m =
    run-bind second (λ b. done (pair_result PairCombination.Quotient (get_or m.core.registers r1 0) (get_or m.core.registers (r1 + 1) 0) b)) m

pair-altered : (words : Reading (Option (ℕ × ℕ))) (r1 next : ℕ) (m : Machine) (w : ℕ × ℕ) → run words m ≡ Some w
    → altered_in (pair_altering words r1 next) m ≡ register_pair r1 w unchanged next
pair-altered words r1 next m w e =
    let first : run (bind words first_word) m ≡ w.0 = run-bind words first_word m ∙ ap (λ o. run (first_word o) m) e
    in let second : run (bind words second_word) m ≡ w.1 = run-bind words second_word m ∙ ap (λ o. run (second_word o) m) e
    in rw (first, second) refl

-- no quotient is found after all else that may refuse a division
abbrev with_divide : Conditions → Bool → Bool → Conditions
with_divide c specification divide = record c { specification = specification; divide = divide }

last-met : (c : Conditions) (s : Bool) (outcome : Outcome) (m : Core)
    → unless_met (with_divide c s true) m outcome ≡ unless_met (with_divide c s false) m (record { ended = Ended.Program FixedPointDivide; core = m })
last-met c s outcome m = by c.privileged s c.addressing c.protection where
  by : (p s a k : Bool)
      → unless_met (record { privileged = p; specification = s; addressing = a; protection = k; divide = true }) m outcome
      ≡ unless_met (record { privileged = p; specification = s; addressing = a; protection = k; divide = false }) m
      (record { ended = Ended.Program FixedPointDivide; core = m })
  by true s a k = refl
  by false true a k = refl
  by false false true k = refl
  by false false false true = refl
  by false false false false = refl

abbrev pair_outcome_of : Core → Conditions → ℕ → Option (ℕ × ℕ) → ℕ → Outcome
pair_outcome_of m c r1 result next =
    unless_met (with_divide c (is_odd r1 || c.specification) (is_none result)) m (after_alteration m (pair_alteration r1 result next))

-- the row after what is known to refuse it
abbrev pair_after : PairCombination → Reading (Option (ℕ × ℕ)) → ℕ → ℕ → Row Ended
pair_after pair words r1 next = pair_made pair words (altering_row (pair_altering words r1 next))

pair-done : (pair : PairCombination) (words : Reading (Option (ℕ × ℕ))) (r1 next : ℕ) (m : Machine) (w : ℕ × ℕ) → run words m ≡ Some w
    → happened (pair_after pair words r1 next) m ≡ with_outcome m (after_alteration m.core (register_pair r1 w unchanged next))
pair-done PairCombination.Product words r1 next m w e = altering-as (pair_altering words r1 next) _ m (pair-altered words r1 next m w e)
pair-done PairCombination.Quotient words r1 next m w e =
    happened-bind words (unless_divided (altering_row (pair_altering words r1 next))) m (Some w) e
    ∙ altering-as (pair_altering words r1 next) _ m (pair-altered words r1 next m w e)

pair-by : (pair : PairCombination) (c : Conditions) (words : Reading (Option (ℕ × ℕ))) (r1 next : ℕ) (m : Machine) (result : Option (ℕ × ℕ))
    → run words m ≡ result
    → (result ≡ None → pair ≡ PairCombination.Quotient)
    → happened (unless_refused (program_code (with_divide c (is_odd r1 || c.specification) false)) (pair_after pair words r1 next)) m
    ≡ with_outcome m (pair_outcome_of m.core c r1 result next)
pair-by pair c words r1 next m (Some w) e q =
    refused-or (program_code (with_divide c (is_odd r1 || c.specification) false)) (pair_after pair words r1 next) m _ (pair-done pair words r1 next m w e)
pair-by PairCombination.Product c words r1 next m None e q = absurd (let p : PairCombination.Product ≡ PairCombination.Quotient = q refl in cc)
pair-by PairCombination.Quotient c words r1 next m None e q =
    refused-or (program_code (with_divide c (is_odd r1 || c.specification) false)) (pair_after PairCombination.Quotient words r1 next) m
    (record { ended = Ended.Program FixedPointDivide; core = m.core })
    (happened-bind words (unless_divided (altering_row (pair_altering words r1 next))) m None e)
    ∙ ap (with_outcome m) (sym (last-met c (is_odd r1 || c.specification) (after_alteration m.core (pair_alteration r1 None next)) m.core))

divides : (pair : PairCombination) (high low second : ℕ) → pair_result pair high low second ≡ None → pair ≡ PairCombination.Quotient
divides PairCombination.Product high low second e = absurd (cc)
divides PairCombination.Quotient high low second e = refl

pub pair-row-is : (pair : PairCombination) (r1 : ℕ) (second : OperandReading) (next : ℕ) (length : InstructionLength) (m : Machine)
    → happened (pair_row pair r1 second next) m ≡ with_outcome m (pair_outcome pair (view_in m next length) r1 (operand_in second m))
pair-row-is pair r1 second next length m =
    let words : Reading (Option (ℕ × ℕ)) = pair_read pair r1 second.value
    in let c : Conditions = run second.conditions m
    in happened-bind second.conditions
    (λ c. unless_refused (program_code (with_divide c (is_odd r1 || c.specification) false)) (pair_after pair words r1 next)) m c refl
    ∙ pair-by pair c words r1 next m (pair_result pair (get_or m.core.registers r1 0) (get_or m.core.registers (r1 + 1) 0) (run second.value m))
    (pair-is pair r1 second.value m) (divides pair (get_or m.core.registers r1 0) (get_or m.core.registers (r1 + 1) 0) (run second.value m))

-- branches: the branch address is read before all else
pub target-is : (r2 : ℕ) (v : View) (m : Machine) → v.core ≡ m.core → run (target_read r2) m ≡ register_target v r2
target-is r2 v m e = by (nat_eq r2 0) where
  by : (z : Bool) → run (cond z (done None) (bind (value_read (Register r2)) (λ address. done (Some address)))) m
      ≡ cond z None (Some (get_or v.core.registers r2 0))
  by true = refl
  by false = ap (λ (c : Core). Some (get_or c.registers r2 0)) (sym e)

pub branch-is : (branch : Branch) (r1 : ℕ) (target : Reading (Option ℕ)) (next : ℕ) (length : InstructionLength) (m : Machine)
    → happened (branch_row branch r1 target next length) m ≡ with_outcome m (branch_outcome branch (view_in m next length) r1 (run target m))
branch-is Branch.OnCondition mask target next length m =
    altering-as (branch_altering Branch.OnCondition mask target next length) _ m (ap (λ a. no_register unchanged a) (run-bind target _ m))
branch-is Branch.AndLink r1 target next length m =
    altering-as (branch_altering Branch.AndLink r1 target next length) _ m
    (ap (λ a. one_register r1 (link_of (view_in m next length)) unchanged a) (run-bind target _ m))
branch-is Branch.OnCount r1 target next length m =
    altering-as (branch_altering Branch.OnCount r1 target next length) _ m
    (ap (λ a. one_register r1 (count_less_one (get_or m.core.registers r1 0)) unchanged a) (run-bind target _ m))

comparand-is : (r3 next : ℕ) (length : InstructionLength) (m : Machine)
    → get_or m.core.registers (comparand_register r3) 0 ≡ comparand_of (view_in m next length) r3
comparand-is r3 next length m = by (is_odd r3) where
  by : (z : Bool) → get_or m.core.registers (cond z r3 (r3 + 1)) 0 ≡ cond z (get_or m.core.registers r3 0) (get_or m.core.registers (r3 + 1) 0)
  by true = refl
  by false = refl

pub index-is : (branch : IndexBranch) (r1 r3 address next : ℕ) (length : InstructionLength) (m : Machine)
    → happened (index_row branch r1 r3 address next) m ≡ with_outcome m (index_outcome branch (view_in m next length) r1 r3 address)
index-is branch r1 r3 address next length m =
    let sum : ℕ = word_of (signed_sum (get_or m.core.registers r1 0) (get_or m.core.registers r3 0))
    in altering-as (index_altering branch r1 r3 address next) _ m
    (ap (λ comparand. one_register r1 sum unchanged (address_taken next (is_taken branch (signed sum) (signed comparand)) (Some address)))
    (comparand-is r3 next length m))

-- shifts
pub shift-is : (shift : Shift) (r1 address next : ℕ) (length : InstructionLength) (m : Machine)
    → happened (shift_row shift r1 address next) m ≡ with_outcome m (shift_outcome shift (view_in m next length) r1 address)
shift-is Shift.LeftLogical r1 address next length m = altering-as (shift_altering Shift.LeftLogical r1 (address % 64) next) _ m refl
shift-is Shift.RightLogical r1 address next length m = altering-as (shift_altering Shift.RightLogical r1 (address % 64) next) _ m refl
shift-is Shift.Left r1 address next length m = altering-as (shift_altering Shift.Left r1 (address % 64) next) _ m refl
shift-is Shift.Right r1 address next length m = altering-as (shift_altering Shift.Right r1 (address % 64) next) _ m refl

abbrev words_shifted : Shift → ℕ → ℕ → Machine → (ℕ × ℕ) × CodeSetting
words_shifted shift r1 address m = shifted_words shift (get_or m.core.registers r1 0) (get_or m.core.registers (r1 + 1) 0) (address % 64)

pair-shift-by : (shift : Shift) (r1 address next : ℕ) (length : InstructionLength) (m : Machine)
    → altered_in (pair_shift_altering shift r1 (address % 64) next) m
    ≡ register_pair r1 (words_shifted shift r1 address m).0 (words_shifted shift r1 address m).1 next
    → happened (pair_shift_row shift r1 address next) m ≡ with_outcome m (pair_shift_outcome shift (view_in m next length) r1 address)
pair-shift-by shift r1 address next length m e =
    let row : Row Ended = altering_row (pair_shift_altering shift r1 (address % 64) next)
    in refused-or (program_code (register_pair_conditions r1)) row m
    (after_alteration m.core (register_pair r1 (words_shifted shift r1 address m).0 (words_shifted shift r1 address m).1 next))
    (altering-as (pair_shift_altering shift r1 (address % 64) next) _ m e)

pub pair-shift-is : (shift : Shift) (r1 address next : ℕ) (length : InstructionLength) (m : Machine)
    → happened (pair_shift_row shift r1 address next) m ≡ with_outcome m (pair_shift_outcome shift (view_in m next length) r1 address)
pair-shift-is Shift.LeftLogical r1 address next length m = pair-shift-by Shift.LeftLogical r1 address next length m refl
pair-shift-is Shift.RightLogical r1 address next length m = pair-shift-by Shift.RightLogical r1 address next length m refl
pair-shift-is Shift.Left r1 address next length m = pair-shift-by Shift.Left r1 address next length m refl
pair-shift-is Shift.Right r1 address next length m = pair-shift-by Shift.Right r1 address next length m refl
