-- A combination of R1 and a second operand is walked over by what the operand is made of.
use Rattle.std.proofs.Common.{ℕ, ◌+◌, ◌≡◌, ◌∙◌, Bool, true, false, cond, Option, Some, None, List, [], ◌∷◌, refl, ap, sym, get_or, unwrap_or}
use Rattle.std.specs.Prelude.{is_some}
use Rattle.s360_store.specs.declared.place.Place.{Place}
use Rattle.s360_store.specs.declared.place.Place.TheVariants.{Register}
use Rattle.s360_store.specs.declared.protection.Access.{Access}
use Rattle.s360_store.specs.Spans.{byte_places}
use Rattle.s360_fixed.specs.declared.{ended.Ended.Ended, program_code.ProgramCode.ProgramCode, row.Combination.Combination, second_operand.Width.Width}
use Rattle.s360_fixed.specs.declared.program_code.ProgramCode.TheVariants.{Specification}
use Rattle.s360_fixed.specs.declared.row.PairCombination.{PairCombination}
use Rattle.s360_fixed.specs.Operands.{access_conditions, bytes_of_width, extended_halfword}
use Rattle.s360_fixed.specs.Outcomes.{is_odd, pair_result}
use Rattle.s360_fixed.specs.ProgramCodes.{Conditions, program_code}
use Rattle.s360_machine.specs.Machine.{Machine}
use Rattle.s360_footprint.specs.Altering.{altering_row}
use Rattle.s360_footprint.specs.OperandReadings.{number_read, profile_of, word_read}
use Rattle.s360_footprint.specs.Readings.{Reading, bind, places_read, run}
use Rattle.s360_footprint.specs.Rows.{Row}
use Rattle.s360_footprint.specs.RegisterRows.{combination_altering, first_word, pair_altering, pair_read, second_word, unless_divided}
use Rattle.s360_footprint.proofs.OperandLemmas.{conditions-are}
use Rattle.s360_footprint.proofs.ReadingLemmas.{run-bind}
use Rattle.s360_source.specs.declared.{question.Question.Question, second.Second.Second}
use Rattle.s360_source.specs.Parts.{places_of_part}
use Rattle.s360_source.specs.Seconds.{pair_done, pair_met, part_of, second_reading}
use Rattle.s360_source.specs.Walks.{combination_walk, pair_walk, walked, with_decided, with_store}
use Rattle.s360_source.proofs.ReadingPlaces.{address-places, mapped, number-places}
use Rattle.s360_source.proofs.WalkLemmas.{altering-walked, bind-walked, combination-walked, decided_none}

word-places : (width : Width) (address : ℕ) (m : Machine) → places_read (word_read width address) m ≡ byte_places address (bytes_of_width width)
word-places Width.Byte address m = refl
word-places Width.Halfword address m = mapped (number_read address 2) extended_halfword m ∙ number-places address 2 m
word-places Width.Word address m = number-places address 4 m

second-places : (s : Second) (m : Machine) → places_read (second_reading (profile_of m.core) s).value m ≡ places_of_part (part_of s)
second-places (Second.Register r) m = refl
second-places (Second.Storage width address) m = word-places width address m
second-places (Second.Address index base displacement) m = address-places index base displacement m

pub second-combined : (q : Question) (c : Combination) (r1 next : ℕ) (s : Second) (m : Machine) (found : List Place)
    → combination_walk q m.core.psw c r1 (places_of_part (part_of s)) found
    ≡ walked q (altering_row (combination_altering c r1 (second_reading (profile_of m.core) s).value next)) m found
second-combined q c r1 next s m found =
    sym (combination-walked q c r1 next (second_reading (profile_of m.core) s).value m found
    ∙ ap (λ ps. combination_walk q m.core.psw c r1 ps found) (second-places s m))

-- what keeps a pair and a second operand from being used
plain-code : (p s a k d odd : Bool) (met : Option ProgramCode) → p ≡ false → d ≡ false
    → met ≡ program_code (record { privileged = p; specification = s; addressing = a; protection = k; divide = d })
    → cond odd (Some Specification) met ≡ pair_met odd (record { privileged = p; specification = s; addressing = a; protection = k; divide = d })
plain-code false s a k false true met e f h = refl
plain-code false s a k false false met e f h = h
plain-code true s a k d odd met e f h = absurd (cc)
plain-code false s a k true odd met e f h = absurd (cc)

no-other : (s : Second) (m : Machine)
    → ((run (second_reading (profile_of m.core) s).conditions m).privileged ≡ false) × ((run (second_reading (profile_of m.core) s).conditions m).divide
    ≡ false)
no-other (Second.Register r) m = (refl, refl)
no-other (Second.Storage width address) m =
    let e : run (second_reading (profile_of m.core) (Second.Storage width address)).conditions m
    ≡ access_conditions m.core address (bytes_of_width width) (bytes_of_width width) Access.Fetch
    = conditions-are address (bytes_of_width width) (bytes_of_width width) Access.Fetch m
    in (ap (λ (c : Conditions). c.privileged) e, ap (λ (c : Conditions). c.divide) e)
no-other (Second.Address index base displacement) m = (refl, refl)

pub pair-code : (s : Second) (r1 : ℕ) (m : Machine) (met o : Option ProgramCode)
    → met ≡ program_code (run (second_reading (profile_of m.core) s).conditions m) → o ≡ cond (is_odd r1) (Some Specification) met
    → o ≡ pair_met (is_odd r1) (run (second_reading (profile_of m.core) s).conditions m)
pair-code s r1 m met o e h =
    let c : Conditions = run (second_reading (profile_of m.core) s).conditions m
    in h ∙ plain-code c.privileged c.specification c.addressing c.protection c.divide (is_odd r1) met (no-other s m).0 (no-other s m).1 e

-- what is made of the pair and a second operand
pair-stored : (q : Question) (r1 next : ℕ) (words : Reading (Option (ℕ × ℕ))) (m : Machine) (found ps : List Place) → places_read words m ≡ ps
    → walked q (altering_row (pair_altering words r1 next)) m found ≡ pair_walk q m.core.psw r1 ps found
pair-stored q r1 next words m found ps e =
    altering-walked q (pair_altering words r1 next) m [] (Register r1 ∷ (Register (r1 + 1) ∷ [])) ps [] found refl both refl where
      both : (before : List Place)
          → with_store q (Register (r1 + 1)) (places_read (bind words second_word) m) (with_store q (Register r1) (places_read
          (bind words first_word) m) before)
          ≡ with_store q (Register (r1 + 1)) ps (with_store q (Register r1) ps before)
      both before =
          ap (λ xs. with_store q (Register (r1 + 1)) xs (with_store q (Register r1) (places_read (bind words first_word) m) before))
          (mapped words (λ o. (unwrap_or o (0, 0)).1) m ∙ e)
          ∙ ap (λ xs. with_store q (Register (r1 + 1)) ps (with_store q (Register r1) xs before)) (mapped words (λ o. (unwrap_or o (0, 0)).0) m ∙ e)

pub product-walked : (q : Question) (r1 next : ℕ) (s : Second) (m : Machine) (found after ps : List Place) → ps ≡ Register (r1 + 1) ∷ places_of_part (part_of s)
    → after ≡ pair_walk q m.core.psw r1 ps found
    → after ≡ walked q (pair_done PairCombination.Product r1 (second_reading (profile_of m.core) s).value next) m found
product-walked q r1 next s m found after ps e h =
    h ∙ sym (pair-stored q r1 next (pair_read PairCombination.Product r1 (second_reading (profile_of m.core) s).value) m found ps
    (ap (λ xs. Register (r1 + 1) ∷ xs) (mapped (second_reading (profile_of m.core) s).value _ m ∙ second-places s m) ∙ sym e))

quotient-places : (r1 : ℕ) (s : Second) (m : Machine)
    → places_read (pair_read PairCombination.Quotient r1 (second_reading (profile_of m.core) s).value) m
    ≡ Register r1 ∷ (Register (r1 + 1) ∷ places_of_part (part_of s))
quotient-places r1 s m =
    ap (λ ps. Register r1 ∷ (Register (r1 + 1) ∷ ps)) (mapped (second_reading (profile_of m.core) s).value _ m ∙ second-places s m)

divided-or-not : (q : Question) (row : Row Ended) (m : Machine) (found : List Place) (o : Option (ℕ × ℕ)) (z : Bool) → is_some o ≡ z
    → cond z (walked q row m found) found ≡ walked q (unless_divided row o) m found
divided-or-not q row m found (Some words) true e = refl
divided-or-not q row m found None false e = sym (decided_none q found)
divided-or-not q row m found (Some words) false e = absurd (cc)
divided-or-not q row m found None true e = absurd (cc)

pub quotient-walked : (q : Question) (r1 next : ℕ) (s : Second) (m : Machine) (found now ps : List Place) (z : Bool) (word : ℕ)
    → word ≡ run (second_reading (profile_of m.core) s).value m
    → is_some (pair_result PairCombination.Quotient (get_or m.core.registers r1 0) (get_or m.core.registers (r1 + 1) 0) word) ≡ z
    → ps ≡ Register r1 ∷ (Register (r1 + 1) ∷ places_of_part (part_of s)) → now ≡ with_decided q ps found
    → cond z (pair_walk q m.core.psw r1 ps now) now
    ≡ walked q (pair_done PairCombination.Quotient r1 (second_reading (profile_of m.core) s).value next) m found
quotient-walked q r1 next s m found now ps z word w e f h =
    let words : Reading (Option (ℕ × ℕ)) = pair_read PairCombination.Quotient r1 (second_reading (profile_of m.core) s).value
    in let row : Row Ended = altering_row (pair_altering words r1 next)
    in let is : run words m ≡ pair_result PairCombination.Quotient (get_or m.core.registers r1 0) (get_or m.core.registers (r1 + 1) 0) word
    = run-bind (second_reading (profile_of m.core) s).value _ m
    ∙ ap (pair_result PairCombination.Quotient (get_or m.core.registers r1 0) (get_or m.core.registers (r1 + 1) 0)) (sym w)
    in let read : ps ≡ places_read words m = f ∙ sym (quotient-places r1 s m)
    in bind-walked q words (unless_divided row) m found now _ (run words m) refl (h ∙ ap (λ xs. with_decided q xs found) read)
    (ap (λ xs. cond z xs now) (sym (pair-stored q r1 next words m now ps (sym read)))
    ∙ divided-or-not q row m now (run words m) z (ap is_some is ∙ e))
