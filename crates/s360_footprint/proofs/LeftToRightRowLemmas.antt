-- Rows of two operands in storage from left to right do what their definitions say.
use Rattle.std.proofs.Common.{ℕ, zero, suc, ◌+◌, ◌-◌, ◌≡◌, ◌≤◌, ◌∙◌, Bool, true, false, cond, nat_eq, Option, Some, None, List, ◌∷◌, refl, sym, ap}
use Rattle.std.proofs.Common.{get_or, length, take, drop, arith, pos}
use Rattle.std.proofs.lemmas.List.{drop_more}
use Rattle.s360_model.specs.{ConditionCodes.order_code, Psw.protection_key_of, Storage.Storage}
use Rattle.s360_psw.specs.declared.instruction_length.InstructionLength.{InstructionLength}
use Rattle.s360_store.specs.declared.protection.{Access.Access}
use Rattle.s360_fixed.specs.declared.ended.Ended.{Ended}
use Rattle.s360_fixed.specs.Alterations.{no_register, set_to}
use Rattle.s360_logic.specs.declared.row.ByteCombination.{ByteCombination}
use Rattle.s360_logic.specs.declared.row.ByteCombination.TheVariants.{BitwiseAnd, BitwiseOr, BitwiseExclusiveOr}
use Rattle.s360_logic.specs.Bytes.{combination_code, completed_with, operand_bytes}
use Rattle.s360_logic.specs.Immediate.{code_alone}
use Rattle.s360_logic.specs.LeftToRight.{combine_outcome, combined, combined_byte, compare_outcome, comparison_code, field_at}
use Rattle.s360_machine.specs.Machine.{Machine}
use Rattle.s360_footprint.specs.Altering.{altering_row, happened, view_in, with_outcome}
use Rattle.s360_footprint.specs.LeftToRightRows.{code_altering, combine_row, combining, compare_row, compared, comparison_read}
use Rattle.s360_footprint.specs.LeftToRightRows.{fields_read}
use Rattle.s360_footprint.specs.LeftToRightRows.{made_read, made_stores, result_code_read}
use Rattle.s360_footprint.specs.LeftToRightRows.{sets_code, stored_row}
use Rattle.s360_footprint.specs.OperandReadings.{bytes_read, profile_of}
use Rattle.s360_footprint.specs.Readings.{Reading, bind, done, run}
use Rattle.s360_footprint.specs.Rows.{Store, with_stores}
use Rattle.s360_footprint.proofs.AlteringLemmas.{altering-as, conditioned-when, psw-stored}
use Rattle.s360_footprint.proofs.InstructionRowLemmas.{bytes-are}
use Rattle.s360_footprint.proofs.LeftToRightLemmas.{combines, fields-are, first-inside, made-front, made-stored}
use Rattle.s360_footprint.proofs.LeftToRightLemmas.{results-are, second-inside}
use Rattle.s360_footprint.proofs.ReadingLemmas.{run-bind}

-- an instruction that is completed with another storage
pub stored-is : (ss : List Store) (code : Reading (Option ℕ)) (next : ℕ) (long : InstructionLength) (m : Machine) (s : Storage) (c : Option ℕ)
    → with_stores m m ss ≡ record m { core = record m.core { storage = s } } → run code m ≡ c
    → happened (stored_row ss code next) m ≡ with_outcome m (completed_with (view_in m next long) c s)
stored-is ss code next long m s c e k =
    ap (λ x. record { ended = Ended.Done; machine = x }) (psw-stored ss code (done next) m (record m.core { storage = s }) e)
    ∙ ap (λ o. with_outcome m (completed_with (view_in m next long) o s)) k

-- combinations
no-code : (c : ByteCombination) (results : List ℕ) → sets_code c ≡ false → None ≡ combination_code c results
no-code BitwiseAnd results e = absurd (cc)
no-code BitwiseOr results e = absurd (cc)
no-code BitwiseExclusiveOr results e = absurd (cc)
no-code c results e = refl

abbrev result : ByteCombination → ℕ → ℕ → ℕ → Machine → Storage
result c first second count m = combined c first second count m.core.storage

code-is : (c : ByteCombination) (first second count : ℕ) (m : Machine) → first + count ≤ length m.core.storage.bytes
    → run (result_code_read c (combining c first second) first count) m ≡ combination_code c (operand_bytes (result c first second count m) first count)
code-is c first second count m h = by (sets_code c) refl where
  bytes : run (made_read (combining c first second) first count first count) m ≡ operand_bytes (result c first second count m) first count
  bytes =
      let n : count ≡ first + count - first = omega arith
      in results-are (combining c first second) (combined_byte c first second) (combines c first second) first count first count m h h
      ∙ ap (λ s. take count (drop first s.bytes)) (sym (made-front (combined_byte c first second) first count m.core.storage))
      ∙ ap (λ k. take k (drop first (result c first second count m).bytes)) n

  by : (z : Bool) → sets_code c ≡ z
      → run (cond z (bind (made_read (combining c first second) first count first count) (λ results. done (combination_code c results))) (done None)) m
      ≡ combination_code c (operand_bytes (result c first second count m) first count)
  by true e = run-bind (made_read (combining c first second) first count first count) (λ results. done (combination_code c results)) m
      ∙ ap (combination_code c) bytes
  by false e = no-code c (operand_bytes (result c first second count m) first count) e

pub combine-is : (c : ByteCombination) (first second count next : ℕ) (long : InstructionLength) (m : Machine)
    → happened (combine_row (profile_of m.core) c first second count next) m ≡ with_outcome m (combine_outcome c (view_in m next long) first second count)
combine-is c first second count next long m =
    let s : Storage = result c first second count m
    in conditioned-when (fields_read (profile_of m.core) Access.Store (field_at first count) (field_at second count))
    (stored_row (made_stores (combining c first second) first count) (result_code_read c (combining c first second) first count) next) m _
    (completed_with (view_in m next long) (combination_code c (operand_bytes s first count)) s)
    (fields-are Access.Store (field_at first count) (field_at second count) next long m)
    (λ clear. let inside : first + count ≤ length m.core.storage.bytes = first-inside m.core first count Access.Store (protection_key_of m.core.psw) _ clear
    in stored-is (made_stores (combining c first second) first count) (result_code_read c (combining c first second) first count) next long m s _
    (made-stored (combining c first second) (combined_byte c first second) (combines c first second) first count m inside
    ∙ ap (λ t. record m { core = record m.core { storage = t } }) (sym (made-front (combined_byte c first second) first count m.core.storage)))
    (code-is c first second count m inside))

-- comparisons
compared-is : (s : Storage) (first second n : ℕ) → first + n ≤ length s.bytes → second + n ≤ length s.bytes
    → compared (take n (drop first s.bytes)) (take n (drop second s.bytes)) ≡ comparison_code s first second n
compared-is s first second zero h k = refl
compared-is s first second (suc n) h k =
    let more : drop first s.bytes ≡ get_or s.bytes first 0 ∷ drop (first + 1) s.bytes = drop_more s.bytes first 0 (omega (arith, h))
    in let other : drop second s.bytes ≡ get_or s.bytes second 0 ∷ drop (second + 1) s.bytes = drop_more s.bytes second 0 (omega (arith, k))
    in ap (λ l. compared (take (suc n) l) (take (suc n) (drop second s.bytes))) more
    ∙ ap (λ l. compared (get_or s.bytes first 0 ∷ take n (drop (first + 1) s.bytes)) (take (suc n) l)) other
    ∙ ap (λ c. cond (nat_eq (get_or s.bytes first 0) (get_or s.bytes second 0)) c (order_code (pos (get_or s.bytes first 0)) (pos (get_or s.bytes second 0))))
    (compared-is s (first + 1) (second + 1) n (omega (arith, h)) (omega (arith, k)))

comparison-is : (first second count : ℕ) (m : Machine) → first + count ≤ length m.core.storage.bytes → second + count ≤ length m.core.storage.bytes
    → run (comparison_read first second count) m ≡ comparison_code m.core.storage first second count
comparison-is first second count m h k =
    run-bind (bytes_read first count) (λ xs. bind (bytes_read second count) (λ ys. done (compared xs ys))) m
    ∙ run-bind (bytes_read second count) (λ ys. done (compared (run (bytes_read first count) m) ys)) m
    ∙ ap (λ xs. compared xs (run (bytes_read second count) m)) (bytes-are first count m h)
    ∙ ap (compared (take count (drop first m.core.storage.bytes))) (bytes-are second count m k)
    ∙ compared-is m.core.storage first second count h k

pub code-alone-is : (code : Reading ℕ) (next : ℕ) (long : InstructionLength) (m : Machine) (c : ℕ) → run code m ≡ c
    → happened (altering_row (code_altering code next)) m ≡ with_outcome m (code_alone (view_in m next long) c)
code-alone-is code next long m c e =
    let some : run (bind code (λ x. done (Some x))) m ≡ Some c = run-bind code (λ x. done (Some x)) m ∙ ap (λ x. Some x) e
    in altering-as (code_altering code next) (no_register (set_to c) next) m (rw some refl)

pub compare-is : (first second count next : ℕ) (long : InstructionLength) (m : Machine)
    → happened (compare_row (profile_of m.core) first second count next) m ≡ with_outcome m (compare_outcome (view_in m next long) first second count)
compare-is first second count next long m =
    conditioned-when (fields_read (profile_of m.core) Access.Fetch (field_at first count) (field_at second count))
    (altering_row (code_altering (comparison_read first second count) next)) m _
    (code_alone (view_in m next long) (comparison_code m.core.storage first second count))
    (fields-are Access.Fetch (field_at first count) (field_at second count) next long m)
    (λ clear. code-alone-is (comparison_read first second count) next long m (comparison_code m.core.storage first second count)
    (comparison-is first second count m (first-inside m.core first count Access.Fetch (protection_key_of m.core.psw) _ clear)
    (second-inside m.core second count Access.Fetch (protection_key_of m.core.psw) _ clear)))
