-- Function bytes that the bytes of an operand select: what their fetches look at and meet.
use Rattle.std.proofs.Common.{ℕ, zero, suc, ◌+◌, ◌≡◌, ◌∙◌, ◌++◌, cond, Option, List, [], ◌∷◌, refl, ap, sym, arith}
use Rattle.std.proofs.lemmas.List.{append_assoc, append-nil}
use Rattle.s360_model.specs.Psw.{protection_key_of}
use Rattle.s360_store.specs.declared.place.Place.{Place}
use Rattle.s360_store.specs.declared.place.Place.TheVariants.{Psw, Byte}
use Rattle.s360_store.specs.declared.protection.{Access.Access, Checked.Checked}
use Rattle.s360_store.specs.Protection.{access, met_of_both}
use Rattle.s360_fixed.specs.declared.program_code.ProgramCode.{ProgramCode}
use Rattle.s360_fixed.specs.{Operands.conditions_of, ProgramCodes.Conditions, ProgramCodes.program_code}
use Rattle.s360_logic.specs.{Bytes.byte_at, LeftToRight.field_at, LeftToRight.function_address}
use Rattle.s360_machine.specs.Machine.{Machine}
use Rattle.s360_footprint.specs.LeftToRightRows.{both_met, field_read, function_met, translate_met, translating}
use Rattle.s360_footprint.specs.OperandReadings.{Profile, access_read, profile_of}
use Rattle.s360_footprint.specs.Readings.{Reading, bind, done, places_read, read, run}
use Rattle.s360_footprint.proofs.LeftToRightLemmas.{both-met-is}
use Rattle.s360_footprint.proofs.OperandLemmas.{access-is}
use Rattle.s360_footprint.proofs.ReadingLemmas.{places-bind, run-bind}
use Rattle.s360_source.specs.declared.question.Question.{Question}
use Rattle.s360_source.specs.Made.{selecting_met}
use Rattle.s360_source.specs.Parts.{key_places}
use Rattle.s360_source.specs.Walks.{looks_at_keys, with_decided}
use Rattle.s360_source.proofs.FieldLemmas.{both-places, keys_of}
use Rattle.s360_source.proofs.MadeLemmas.{byte-apart}
use Rattle.s360_source.proofs.ReadingPlaces.{access-places, mapped}
use Rattle.s360_source.proofs.WalkLemmas.{decided_both}

-- one function byte
pub selecting-is : (table a selected : ℕ) (m : Machine) → selected ≡ function_address table (byte_at m.core.storage a)
    → access m.core.storage selected 1 Access.Fetch (protection_key_of m.core.psw)
    ≡ run (selecting_met (profile_of m.core) table (protection_key_of m.core.psw) a) m
selecting-is table a selected m e =
    sym (access-is selected 1 Access.Fetch (protection_key_of m.core.psw) m)
    ∙ ap (λ x. run (access_read (profile_of m.core) x 1 Access.Fetch (protection_key_of m.core.psw)) m) e

pub selecting-places : (table a selected : ℕ) (m : Machine) → selected ≡ function_address table (byte_at m.core.storage a)
    → Byte a ∷ (cond (looks_at_keys m.core selected 1 Access.Fetch) (key_places selected 1) [])
    ≡ places_read (selecting_met (profile_of m.core) table (protection_key_of m.core.psw) a) m
selecting-places table a selected m e =
    ap (λ ps. Byte a ∷ ps)
    (ap (λ x. cond (looks_at_keys m.core x 1 Access.Fetch) (key_places x 1) []) e
    ∙ sym (access-places (function_address table (byte_at m.core.storage a)) 1 Access.Fetch (protection_key_of m.core.psw) m))

-- what three accesses meet
pub met-none : (a : Checked) → met_of_both a Checked.Clear ≡ a
met-none Checked.Clear = refl
met-none Checked.Addressing = refl
met-none Checked.Protection = refl

pub met-three : (a b c : Checked) → met_of_both a (met_of_both b c) ≡ met_of_both (met_of_both a b) c
met-three Checked.Addressing b c = refl
met-three Checked.Clear b c = refl
met-three Checked.Protection Checked.Addressing c = refl
met-three Checked.Protection Checked.Clear c = refl
met-three Checked.Protection Checked.Protection Checked.Addressing = refl
met-three Checked.Protection Checked.Protection Checked.Clear = refl
met-three Checked.Protection Checked.Protection Checked.Protection = refl

-- several, the first of them apart, and the last
following : Profile → ℕ → ℕ → ℕ → Reading Checked → Reading Checked
following p table key a later =
    read (Byte a) (λ b. bind (function_met p table key b) (λ met. bind later (λ l. done (met_of_both met l))))

first-apart : (p : Profile) (table key first i n : ℕ)
    → translate_met p table key first i (suc n) ≡ following p table key (first + i) (translate_met p table key first (i + 1) n)
unfolding following
first-apart p table key first i n =
    ap (λ (r : Reading ℕ). bind r (λ b. bind (function_met p table key b) (λ met. bind (translate_met p table key first (i + 1) n) (λ l. done
    (met_of_both met l)))))
    (byte-apart (translating table first) first i (first + i) (λ l. omega arith))

following-places : (p : Profile) (table key a : ℕ) (later : Reading Checked) (m : Machine)
    → places_read (following p table key a later) m ≡ places_read (selecting_met p table key a) m ++ places_read later m
unfolding following
following-places p table key a later m =
    ap (λ ps. Byte a ∷ ps)
    (places-bind (function_met p table key (byte_at m.core.storage a)) _ m
    ∙ ap (λ ps. places_read (function_met p table key (byte_at m.core.storage a)) m ++ ps) (mapped later _ m))

following-is : (p : Profile) (table key a : ℕ) (later : Reading Checked) (m : Machine)
    → run (following p table key a later) m ≡ met_of_both (run (selecting_met p table key a) m) (run later m)
unfolding following
following-is p table key a later m =
    run-bind (function_met p table key (byte_at m.core.storage a)) (λ met. bind later (λ l. done (met_of_both met l))) m
    ∙ run-bind later (λ l. done (met_of_both (run (function_met p table key (byte_at m.core.storage a)) m) l)) m

last-places : (p : Profile) (table key first i n : ℕ) (m : Machine)
    → places_read (translate_met p table key first i (suc n)) m
    ≡ places_read (translate_met p table key first i n) m ++ places_read (selecting_met p table key (first + (i + n))) m
last-places p table key first i zero m =
    let none : i ≡ i + 0 = omega arith
    in ap (λ r. places_read r m) (first-apart p table key first i 0)
    ∙ following-places p table key (first + i) (done Checked.Clear) m ∙ append-nil (places_read (selecting_met p table key (first + i)) m)
    ∙ ap (λ k. places_read (selecting_met p table key (first + k)) m) none
last-places p table key first i (suc n) m =
    let next : i + 1 + n ≡ i + suc n = omega arith
    in ap (λ r. places_read r m) (first-apart p table key first i (suc n))
    ∙ following-places p table key (first + i) (translate_met p table key first (i + 1) (suc n)) m
    ∙ ap (λ ps. places_read (selecting_met p table key (first + i)) m ++ ps) (last-places p table key first (i + 1) n m)
    ∙ sym (append_assoc (places_read (selecting_met p table key (first + i)) m) (places_read (translate_met p table key first (i + 1) n) m) _)
    ∙ ap (λ ps. ps ++ places_read (selecting_met p table key (first + (i + 1 + n))) m)
    (sym (following-places p table key (first + i) (translate_met p table key first (i + 1) n) m)
    ∙ ap (λ r. places_read r m) (sym (first-apart p table key first i n)))
    ∙ ap (λ k. places_read (translate_met p table key first i (suc n)) m ++ places_read (selecting_met p table key (first + k)) m) next

last-is : (p : Profile) (table key first i n : ℕ) (m : Machine)
    → run (translate_met p table key first i (suc n)) m
    ≡ met_of_both (run (translate_met p table key first i n) m) (run (selecting_met p table key (first + (i + n))) m)
last-is p table key first i zero m =
    let none : i ≡ i + 0 = omega arith
    in ap (λ r. run r m) (first-apart p table key first i 0)
    ∙ following-is p table key (first + i) (done Checked.Clear) m ∙ met-none (run (selecting_met p table key (first + i)) m)
    ∙ ap (λ k. run (selecting_met p table key (first + k)) m) none
last-is p table key first i (suc n) m =
    let next : i + 1 + n ≡ i + suc n = omega arith
    in ap (λ r. run r m) (first-apart p table key first i (suc n))
    ∙ following-is p table key (first + i) (translate_met p table key first (i + 1) (suc n)) m
    ∙ ap (met_of_both (run (selecting_met p table key (first + i)) m)) (last-is p table key first (i + 1) n m)
    ∙ met-three (run (selecting_met p table key (first + i)) m) (run (translate_met p table key first (i + 1) n) m) _
    ∙ ap (λ x. met_of_both x (run (selecting_met p table key (first + (i + 1 + n))) m))
    (sym (following-is p table key (first + i) (translate_met p table key first (i + 1) n) m) ∙ ap (λ r. run r m) (sym (first-apart p table key first i n)))
    ∙ ap (λ k. met_of_both (run (translate_met p table key first i (suc n)) m) (run (selecting_met p table key (first + k)) m)) next

-- one more
pub functions-more : (q : Question) (p : Profile) (table key first f n : ℕ) (m : Machine) (found now after : List Place) → f ≡ first
    → now ≡ with_decided q (places_read (translate_met p table key first 0 n) m) found
    → after ≡ with_decided q (places_read (selecting_met p table key (f + n)) m) now
    → after ≡ with_decided q (places_read (translate_met p table key first 0 (n + 1)) m) found
functions-more q p table key first f n m found now after i e h =
    let one : suc n ≡ n + 1 = omega arith
    in let same : 0 + n ≡ n = omega arith
    in h ∙ ap (λ x. with_decided q (places_read (selecting_met p table key (x + n)) m) now) i
    ∙ ap (with_decided q (places_read (selecting_met p table key (first + n)) m)) e
    ∙ decided_both q (places_read (translate_met p table key first 0 n) m) (places_read (selecting_met p table key (first + n)) m) found
    ∙ ap (λ k. with_decided q (places_read (translate_met p table key first 0 n) m ++ places_read (selecting_met p table key (first + k)) m) found) (sym same)
    ∙ ap (λ ps. with_decided q ps found) (sym (last-places p table key first 0 n m))
    ∙ ap (λ k. with_decided q (places_read (translate_met p table key first 0 k) m) found) one

pub functions-met-more : (p : Profile) (table key first f n : ℕ) (m : Machine) (met one after : Checked) → f ≡ first
    → met ≡ run (translate_met p table key first 0 n) m → one ≡ run (selecting_met p table key (f + n)) m → after ≡ met_of_both met one
    → after ≡ run (translate_met p table key first 0 (n + 1)) m
functions-met-more p table key first f n m met one after i e g h =
    let more : suc n ≡ n + 1 = omega arith
    in let same : 0 + n ≡ n = omega arith
    in h ∙ ap (λ x. met_of_both x one) e ∙ ap (met_of_both (run (translate_met p table key first 0 n) m)) (g ∙ ap (λ x. run (selecting_met p table key
    (x + n)) m) i)
    ∙ ap (λ k. met_of_both (run (translate_met p table key first 0 n) m) (run (selecting_met p table key (first + k)) m)) (sym same)
    ∙ sym (last-is p table key first 0 n m) ∙ ap (λ k. run (translate_met p table key first 0 k) m) more

-- the conditions of an operand and of function bytes
abbrev pub functions_conditions : Profile → Access → ℕ → ℕ → (ℕ → Reading Checked) → Reading Conditions
functions_conditions p kind first count functions =
    read Psw (λ psw. both_met (field_read p kind (field_at first count) (protection_key_of psw)) (functions (protection_key_of psw)))

pub functions-read : (q : Question) (kind : Access) (first count : ℕ) (functions : ℕ → Reading Checked) (m : Machine) (found now after : List Place)
    → now ≡ with_decided q (Psw ∷ keys_of m (field_at first count) kind) found
    → after ≡ with_decided q (places_read (functions (protection_key_of m.core.psw)) m) now
    → after ≡ with_decided q (places_read (functions_conditions (profile_of m.core) kind first count functions) m) found
functions-read q kind first count functions m found now after e h =
    let key : ℕ = protection_key_of m.core.psw
    in h ∙ ap (with_decided q (places_read (functions key) m)) e
    ∙ decided_both q (Psw ∷ keys_of m (field_at first count) kind) (places_read (functions key) m) found
    ∙ ap (λ ps. with_decided q (Psw ∷ ps) found)
    (ap (λ ps. ps ++ places_read (functions key) m) (sym (access-places first count kind key m))
    ∙ sym (both-places (field_read (profile_of m.core) kind (field_at first count) key) (functions key) m))

pub functions-code : (kind : Access) (first count : ℕ) (functions : ℕ → Reading Checked) (m : Machine) (o : Option ProgramCode) (both met other : Checked)
    → o ≡ program_code (conditions_of both) → both ≡ met_of_both met other
    → met ≡ access m.core.storage first count kind (protection_key_of m.core.psw) → other ≡ run (functions (protection_key_of m.core.psw)) m
    → o ≡ program_code (run (functions_conditions (profile_of m.core) kind first count functions) m)
functions-code kind first count functions m o both met other e h f g =
    let key : ℕ = protection_key_of m.core.psw
    in e ∙ ap (λ c. program_code (conditions_of c)) h
    ∙ sym (ap program_code (both-met-is (field_read (profile_of m.core) kind (field_at first count) key) (functions key) met other m
    (access-is first count kind key m ∙ sym f) (sym g)))
