-- Rows of registers and a second operand do what their definitions say.
use Rattle.std.proofs.Common.{ℕ, ◌≡◌, ◌∙◌, Bool, true, false, cond, Option, None, [], ◌∷◌, refl, ap, sym, get_or, map, unwrap_or}
use Rattle.s360_psw.specs.declared.instruction_length.InstructionLength.{InstructionLength}
use Rattle.s360_fixed.specs.declared.{setting.CodeSetting.CodeSetting}
use Rattle.s360_fixed.specs.declared.row.{Combination.Combination}
use Rattle.s360_fixed.specs.declared.row.Combination.TheVariants.{Second, InsertedCharacter, Tested, Complement, Absolute, NegativeAbsolute, Sum, Difference}
use Rattle.s360_fixed.specs.declared.row.Combination.TheVariants.{LowProduct, Comparison, LogicalComparison}
use Rattle.s360_fixed.specs.Outcomes.{combination_outcome, word_for}
use Rattle.s360_fixed.specs.Rows.{result_of}
use Rattle.s360_machine.specs.Machine.{Machine}
use Rattle.s360_footprint.specs.Altering.{altered_in, altering_row, happened, view_in, with_outcome, word_in}
use Rattle.s360_footprint.specs.OperandReadings.{OperandReading, operand_in}
use Rattle.s360_footprint.specs.Readings.{Reading, bind, done, read, run}
use Rattle.s360_footprint.specs.RegisterRows.{combination_altering, combination_row, compares, keeps_code, may_overflow, result_read, uses_first, word_result}
use Rattle.s360_footprint.proofs.AlteringLemmas.{altering-as, conditioned}
use Rattle.s360_footprint.proofs.ReadingLemmas.{run-bind}
use Rattle.s360_store.specs.declared.place.Place.TheVariants.{Register}

-- what the table says of the kinds of results
unused : (c : Combination) (a b : ℕ) → uses_first c ≡ false → result_of c 0 b ≡ result_of c a b
unused Second a b e = refl
unused Tested a b e = refl
unused Complement a b e = refl
unused Absolute a b e = refl
unused NegativeAbsolute a b e = refl
unused c a b e = absurd (cc)

kept : (c : Combination) (a b : ℕ) → keeps_code c ≡ true → None ≡ (result_of c a b).1.code
kept Second a b e = refl
kept InsertedCharacter a b e = refl
kept LowProduct a b e = refl
kept c a b e = absurd (cc)

fits : (c : Combination) (a b : ℕ) → may_overflow c ≡ false → false ≡ (result_of c a b).1.overflow
fits Complement a b e = absurd (cc)
fits Absolute a b e = absurd (cc)
fits Sum a b e = absurd (cc)
fits Difference a b e = absurd (cc)
fits c a b e = refl

words-are : (c : Combination) (a b r1 : ℕ) → cond (compares c) [] ((r1, unwrap_or (result_of c a b).0 0) ∷ []) ≡ word_for r1 (result_of c a b).0
words-are Comparison a b r1 = refl
words-are LogicalComparison a b r1 = refl
words-are c a b r1 = refl

result-is : (c : Combination) (r1 : ℕ) (second : Reading ℕ) (m : Machine)
    → run (result_read c r1 second) m ≡ result_of c (get_or m.core.registers r1 0) (run second m)
result-is c r1 second m = by (uses_first c) refl where
  by : (z : Bool) → uses_first c ≡ z
      → run (cond z (read (Register r1) (λ a. bind second (λ b. done (result_of c a b)))) (bind second (λ b. done (result_of c 0 b)))) m
      ≡ result_of c (get_or m.core.registers r1 0) (run second m)
  by true e = run-bind second (λ b. done (result_of c (get_or m.core.registers r1 0) b)) m
  by false e = run-bind second (λ b. done (result_of c 0 b)) m ∙ unused c (get_or m.core.registers r1 0) (run second m) e

-- a part that is always the same, or one of what is read
known-or : {X Y : Type 0} (z : Bool) (x : Y) (r : Reading X) (f : X → Y) (m : Machine) → (z ≡ true → x ≡ f (run r m))
    → run (cond z (done x) (bind r (λ y. done (f y)))) m ≡ f (run r m)
known-or true x r f m h = h refl
known-or false x r f m h = run-bind r (λ y. done (f y)) m

read-or : {X Y : Type 0} (z : Bool) (x : Y) (r : Reading X) (f : X → Y) (m : Machine) → (z ≡ false → x ≡ f (run r m))
    → run (cond z (bind r (λ y. done (f y))) (done x)) m ≡ f (run r m)
read-or true x r f m h = run-bind r (λ y. done (f y)) m
read-or false x r f m h = h refl

one-or-none : (z : Bool) (word : ℕ × Reading ℕ) (m : Machine) → map (word_in m) (cond z [] (word ∷ [])) ≡ cond z [] (word_in m word ∷ [])
one-or-none true word m = refl
one-or-none false word m = refl

combination-altered : (c : Combination) (r1 : ℕ) (second : Reading ℕ) (next : ℕ) (m : Machine)
    → altered_in (combination_altering c r1 second next) m
    ≡ record {
      registers = word_for r1 (result_of c (get_or m.core.registers r1 0) (run second m)).0;
      setting
          = (result_of c (get_or m.core.registers r1 0) (run second m)).1;
      address = next;
    }
combination-altered c r1 second next m =
    let a : ℕ = get_or m.core.registers r1 0
    in let b : ℕ = run second m
    in let r : Reading (Option ℕ × CodeSetting) = result_read c r1 second
    in let i : run r m ≡ result_of c a b = result-is c r1 second m
    in let words : map (word_in m) (cond (compares c) [] ((r1, bind r word_result) ∷ [])) ≡ word_for r1 (result_of c a b).0
    = one-or-none (compares c) (r1, bind r word_result) m
    ∙ ap (λ v. cond (compares c) [] ((r1, v) ∷ [])) (run-bind r word_result m ∙ ap (λ (x : Option ℕ × CodeSetting). unwrap_or x.0 0) i)
    ∙ words-are c a b r1
    in let code : run (cond (keeps_code c) (done None) (bind r (λ x. done x.1.code))) m ≡ (result_of c a b).1.code
    = known-or (keeps_code c) None r (λ x. x.1.code) m (λ z. kept c a b z ∙ ap (λ (x : Option ℕ × CodeSetting). x.1.code) (sym i))
    ∙ ap (λ (x : Option ℕ × CodeSetting). x.1.code) i
    in let overflow : run (cond (may_overflow c) (bind r (λ x. done x.1.overflow)) (done false)) m ≡ (result_of c a b).1.overflow
    = read-or (may_overflow c) false r (λ x. x.1.overflow) m (λ z. fits c a b z ∙ ap (λ (x : Option ℕ × CodeSetting). x.1.overflow) (sym i))
    ∙ ap (λ (x : Option ℕ × CodeSetting). x.1.overflow) i
    in rw (words, code, overflow) refl

pub combination-is : (c : Combination) (r1 : ℕ) (second : OperandReading) (next : ℕ) (length : InstructionLength) (m : Machine)
    → happened (combination_row c r1 second next) m ≡ with_outcome m (combination_outcome c (view_in m next length) r1 (operand_in second m))
combination-is c r1 second next length m =
    conditioned second.conditions (altering_row (combination_altering c r1 second.value next)) m (run second.conditions m) _ refl
    (altering-as (combination_altering c r1 second.value next) _ m (combination-altered c r1 second.value next m))
