-- Conversions and status switching are walked over by what they are made of.
use Rattle.std.proofs.Common.{ℕ, ◌≡◌, ◌∙◌, ◌++◌, Bool, true, false, cond, Option, Some, None, List, [], ◌∷◌, refl, ap, sym}
use Rattle.std.specs.Prelude.{ℤ, is_some}
use Rattle.std.proofs.lemmas.List.{append-nil}
use Rattle.s360_model.specs.{Packed.packed_value, Psw.problem_state_of, Storage.doubleword_at}
use Rattle.s360_store.specs.declared.place.Place.{Place}
use Rattle.s360_store.specs.declared.place.Place.TheVariants.{Psw, Register}
use Rattle.s360_store.specs.declared.protection.Access.{Access}
use Rattle.s360_store.specs.Spans.{byte_places}
use Rattle.s360_fixed.specs.declared.{program_code.ProgramCode.ProgramCode}
use Rattle.s360_fixed.specs.declared.program_code.ProgramCode.TheVariants.{Privileged}
use Rattle.s360_fixed.specs.ProgramCodes.{Conditions, program_code}
use Rattle.s360_machine.specs.Machine.{Machine}
use Rattle.s360_footprint.specs.Altering.{altering_row}
use Rattle.s360_footprint.specs.LeftToRightRows.{code_altering}
use Rattle.s360_footprint.specs.OperandReadings.{conditions_read, number_read, profile_of}
use Rattle.s360_footprint.specs.Readings.{Reading, bind, done, places_read, run}
use Rattle.s360_footprint.specs.StatusRows.{binary_made, binary_read, privileged_read, psw_row}
use Rattle.s360_footprint.specs.StatusRows.{word_of_number}
use Rattle.s360_footprint.proofs.OperandLemmas.{conditions-are, number-is}
use Rattle.s360_footprint.proofs.ReadingLemmas.{places-bind, run-bind}
use Rattle.s360_source.specs.declared.question.Question.{Question}
use Rattle.s360_source.specs.Walks.{altered_walk, walked, with_decided, with_store}
use Rattle.s360_source.proofs.ReadingPlaces.{mapped, number-places}
use Rattle.s360_source.proofs.WalkLemmas.{altering-walked, bind-walked, decided_both, decided_none}

-- a number that is converted to binary, if it is one
binary-places : (address : ℕ) (m : Machine) → places_read (binary_read address) m ≡ byte_places address 8
binary-places address m = mapped (number_read address 8) packed_value m ∙ number-places address 8 m

binary-or-not : (q : Question) (r1 address next : ℕ) (m : Machine) (found : List Place) (o : Option ℤ) (z : Bool) → is_some o ≡ z
    → cond z (with_store q Psw (Psw ∷ []) (with_store q (Register r1) (byte_places address 8) found)) found
    ≡ walked q (binary_made (binary_read address) r1 next o) m found
binary-or-not q r1 address next m found (Some n) true e =
    ap (λ ps. with_store q Psw (Psw ∷ []) (with_store q (Register r1) ps found)) (sym (mapped (binary_read address) word_of_number m ∙ binary-places address m))
    ∙ ap (λ xs. with_store q Psw (Psw ∷ []) (with_store q (Register r1) (places_read (bind (binary_read address) (λ o. done (word_of_number o))) m) xs))
    (sym (decided_none q found))
binary-or-not q r1 address next m found None false e = sym (decided_none q found)
binary-or-not q r1 address next m found (Some n) false e = absurd (cc)
binary-or-not q r1 address next m found None true e = absurd (cc)

pub binary-walked : (q : Question) (r1 address next : ℕ) (m : Machine) (found now : List Place) (z : Bool)
    → is_some (packed_value (doubleword_at m.core.storage.bytes address)) ≡ z → now ≡ with_decided q (byte_places address 8) found
    → cond z (with_store q Psw (Psw ∷ []) (with_store q (Register r1) (byte_places address 8) now)) now
    ≡ walked q (bind (binary_read address) (binary_made (binary_read address) r1 next)) m found
binary-walked q r1 address next m found now z e h =
    let is : run (binary_read address) m ≡ packed_value (doubleword_at m.core.storage.bytes address)
    = run-bind (number_read address 8) (λ n. done (packed_value n)) m ∙ ap packed_value (number-is address 8 m)
    in bind-walked q (binary_read address) (binary_made (binary_read address) r1 next) m found now _ (run (binary_read address) m) refl
    (h ∙ ap (λ ps. with_decided q ps found) (sym (binary-places address m)))
    (binary-or-not q r1 address next m now (run (binary_read address) m) z (ap is_some is ∙ e))

-- a condition code
pub code-walked : (q : Question) (code : Reading ℕ) (next : ℕ) (m : Machine) (found ps : List Place) → places_read code m ≡ ps
    → altered_walk q m.core.psw [] [] [] ps found ≡ walked q (altering_row (code_altering code next)) m found
code-walked q code next m found ps e =
    sym (altering-walked q (code_altering code next) m [] [] [] ps found refl (λ before. refl) (both (places_read code m) (mapped code (λ c. Some c) m)
    ∙ e)) where
      both : (xs : List Place) → places_read (bind code (λ c. done (Some c))) m ≡ xs → places_read (bind code (λ c. done (Some c))) m ++ [] ≡ xs
      both xs h = append-nil _ ∙ h

-- the PSW alone
pub psw-walked : (q : Question) (psw : Reading ℕ) (m : Machine) (found ps : List Place) → places_read psw m ≡ ps
    → with_store q Psw ps found ≡ walked q (psw_row psw) m found
psw-walked q psw m found ps e = ap (λ xs. with_store q Psw xs found) (sym e) ∙ ap (with_store q Psw (places_read psw m)) (sym (decided_none q found))

-- what a privileged instruction meets
state-first : (p s a k d z : Bool) (met : Option ProgramCode) → p ≡ false
    → met ≡ program_code (record { privileged = p; specification = s; addressing = a; protection = k; divide = d })
    → cond z (Some Privileged) met ≡ program_code (record { privileged = z; specification = s; addressing = a; protection = k; divide = d })
state-first p s a k d true met e h = refl
state-first false s a k d false met e h = h
state-first true s a k d false met e h = absurd (cc)

pub state-code : (conditions : Reading Conditions) (m : Machine) (met o : Option ProgramCode) → (run conditions m).privileged ≡ false
    → met ≡ program_code (run conditions m) → o ≡ cond (problem_state_of m.core.psw) (Some Privileged) met
    → o ≡ program_code (run (privileged_read conditions) m)
state-code conditions m met o p e h =
    let c : Conditions = run conditions m
    in h ∙ state-first c.privileged c.specification c.addressing c.protection c.divide (problem_state_of m.core.psw) met p e
    ∙ sym (ap program_code (run-bind conditions _ m))

pub state-read : (q : Question) (conditions : Reading Conditions) (m : Machine) (found now after : List Place)
    → now ≡ with_decided q (places_read conditions m) found → after ≡ with_decided q (Psw ∷ []) now
    → after ≡ with_decided q (places_read (privileged_read conditions) m) found
state-read q conditions m found now after e h =
    h ∙ ap (with_decided q (Psw ∷ [])) e ∙ decided_both q (places_read conditions m) (Psw ∷ []) found
    ∙ ap (λ ps. with_decided q ps found) (sym (places-bind conditions _ m))

pub never-privileged : (address boundary count : ℕ) (kind : Access) (m : Machine)
    → (run (conditions_read (profile_of m.core) address boundary count kind) m).privileged ≡ false
never-privileged address boundary count kind m = ap (λ (c : Conditions). c.privileged) (conditions-are address boundary count kind m)
