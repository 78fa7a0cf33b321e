-- Bytes that are made from left to right: what their readings make, and what their stores leave.
use Rattle.std.proofs.Common.{ℕ, zero, suc, ◌+◌, ◌≡◌, ◌<◌, ◌≤◌, ◌∙◌, Bool, true, false, cond, nat_eq, None, [], ◌∷◌, refl, sym}
use Rattle.std.proofs.Common.{ap, length, take, drop, arith}
use Rattle.std.proofs.lemmas.Bool.{eqb-true, eqb-false}
use Rattle.std.proofs.lemmas.List.{drop_more, get_or-set_same, get_or-set_other, length-set}
use Rattle.s360_model.specs.{Core.Core, Psw.protection_key_of, Storage.Storage}
use Rattle.s360_store.specs.declared.protection.{Access.Access, Checked.Checked}
use Rattle.s360_store.specs.Protection.{access, met_of_both}
use Rattle.s360_store.specs.declared.place.Place.TheVariants.{Byte}
use Rattle.s360_fixed.specs.{Operands.conditions_of, ProgramCodes.program_code}
use Rattle.s360_logic.specs.declared.{field.Field.Field, row.ByteCombination.ByteCombination}
use Rattle.s360_logic.specs.declared.row.ByteCombination.TheVariants.{Second}
use Rattle.s360_logic.specs.Bytes.{byte_at, byte_result, fields_conditions, with_byte}
use Rattle.s360_logic.specs.LeftToRight.{combined_byte, function_address, left_to_right, translated_byte}
use Rattle.s360_machine.specs.Machine.{Machine}
use Rattle.s360_psw.specs.declared.instruction_length.InstructionLength.{InstructionLength}
use Rattle.s360_footprint.specs.Altering.{view_in}
use Rattle.s360_footprint.specs.LeftToRightRows.{Making, both_met, byte_after, combining, field_read, fields_read, made_read, made_stores, translating}
use Rattle.s360_footprint.specs.OperandReadings.{profile_of}
use Rattle.s360_footprint.specs.Readings.{Reading, bind, done, run}
use Rattle.s360_footprint.specs.Rows.{with_stores}
use Rattle.s360_footprint.proofs.OperandLemmas.{access-is, clear-inside, met-nothing}
use Rattle.s360_footprint.proofs.ReadingLemmas.{run-bind}
use Rattle.s360_footprint.proofs.SequenceLemmas.{stores-append}

-- storage after so many bytes were made, the last one last
abbrev pub made : (ℕ → Storage → ℕ) → ℕ → ℕ → Storage → Storage
made byte first zero s = s
made byte first (suc n) s = with_byte (first + n) (byte n (made byte first n s)) (made byte first n s)

front-more : (byte : ℕ → Storage → ℕ) (first i n : ℕ) (s : Storage)
    → left_to_right byte first i (suc n) s ≡ with_byte (first + (i + n)) (byte (i + n) (left_to_right byte first i n s)) (left_to_right byte first i n s)
front-more byte first i zero s = let e : i + 0 ≡ i = omega arith in rw e refl
front-more byte first i (suc n) s =
    let e : i + suc n ≡ i + 1 + n = omega arith in rw e (front-more byte first (i + 1) n (with_byte (first + i) (byte i s) s))

pub made-front : (byte : ℕ → Storage → ℕ) (first n : ℕ) (s : Storage) → left_to_right byte first 0 n s ≡ made byte first n s
made-front byte first zero s = refl
made-front byte first (suc n) s =
    let e : 0 + n ≡ n = omega arith
    in let h : left_to_right byte first 0 (suc n) s ≡ with_byte (first + n) (byte n (left_to_right byte first 0 n s)) (left_to_right byte first 0 n s)
    = rw e at (front-more byte first 0 n s)
    in h ∙ ap (λ t. with_byte (first + n) (byte n t) t) (made-front byte first n s)

pub made-length : (byte : ℕ → Storage → ℕ) (first n : ℕ) (s : Storage) → length (made byte first n s).bytes ≡ length s.bytes
made-length byte first zero s = refl
made-length byte first (suc n) s = length-set (made byte first n s).bytes (first + n) (byte n (made byte first n s)) ∙ made-length byte first n s

-- what makes a byte makes the one of the bytes as they then stand
abbrev pub Makes : Making → (ℕ → Storage → ℕ) → Type 0
Makes making byte = (i : ℕ) (reads : ℕ → Reading ℕ) (m : Machine) (s : Storage) → ((a : ℕ) → run (reads a) m ≡ byte_at s a) → run (making i reads) m ≡ byte i s

pub byte-is : (making : Making) (byte : ℕ → Storage → ℕ) → Makes making byte → (first : ℕ) (m : Machine) (n a : ℕ) → first + n ≤ length m.core.storage.bytes
    → run (byte_after making first n a) m ≡ byte_at (made byte first n m.core.storage) a
byte-is making byte makes first m zero a h = refl
byte-is making byte makes first m (suc n) a h = turn (nat_eq (first + n) a) refl (λ b. byte-is making byte makes first m n b (omega (arith, h))) where
  turn : (z : Bool) → nat_eq (first + n) a ≡ z → ((b : ℕ) → run (byte_after making first n b) m ≡ byte_at (made byte first n m.core.storage) b)
      → run (cond z (making n (byte_after making first n)) (byte_after making first n a)) m ≡ byte_at (made byte first (suc n) m.core.storage) a
  turn true e i =
      let here : first + n ≡ a = eqb-true (first + n) a e
      in let s : Storage = made byte first n m.core.storage
      in let within : first + n < length s.bytes = omega (arith, h, made-length byte first n m.core.storage)
      in makes n (byte_after making first n) m s i ∙ sym (get_or-set_same s.bytes (first + n) (byte n s) 0 within)
      ∙ ap (λ b. byte_at (made byte first (suc n) m.core.storage) b) here
  turn false e i =
      let s : Storage = made byte first n m.core.storage
      in i a ∙ sym (get_or-set_other s.bytes (first + n) a (byte n s) 0 (λ k. eqb-false (first + n) a e (sym k)))

-- what their stores leave
pub made-stored : (making : Making) (byte : ℕ → Storage → ℕ) → Makes making byte → (first n : ℕ) (m : Machine) → first + n ≤ length m.core.storage.bytes
    → with_stores m m (made_stores making first n) ≡ record m { core = record m.core { storage = made byte first n m.core.storage } }
made-stored making byte makes first zero m h = refl
made-stored making byte makes first (suc n) m h =
    let s : Storage = made byte first n m.core.storage
    in let v : run (making n (byte_after making first n)) m ≡ byte n s
    = makes n (byte_after making first n) m s (λ a. byte-is making byte makes first m n a (omega (arith, h)))
    in stores-append m m (made_stores making first n) (record { place = Byte (first + n); value = making n (byte_after making first n) } ∷ [])
    ∙ ap (λ (x : Machine). record x { core = record x.core { storage = with_byte (first + n) (run (making n (byte_after making first n)) m) x.core.storage } })
    (made-stored making byte makes first n m (omega (arith, h)))
    ∙ ap (λ b. record m { core = record m.core { storage = with_byte (first + n) b s } }) v

-- the bytes of the result
pub results-are : (making : Making) (byte : ℕ → Storage → ℕ) → Makes making byte → (first count a n : ℕ) (m : Machine)
    → first + count ≤ length m.core.storage.bytes
    → a + n ≤ length m.core.storage.bytes → run (made_read making first count a n) m ≡ take n (drop a (made byte first count m.core.storage).bytes)
results-are making byte makes first count a zero m h k = refl
results-are making byte makes first count a (suc n) m h k =
    let s : Storage = made byte first count m.core.storage
    in let size : length s.bytes ≡ length m.core.storage.bytes = made-length byte first count m.core.storage
    in run-bind (byte_after making first count a) (λ b. bind (made_read making first count (a + 1) n) (λ bs. done (b ∷ bs))) m
    ∙ run-bind (made_read making first count (a + 1) n) (λ bs. done (run (byte_after making first count a) m ∷ bs)) m
    ∙ ap (λ b. b ∷ run (made_read making first count (a + 1) n) m) (byte-is making byte makes first m count a h)
    ∙ ap (λ bs. byte_at s a ∷ bs) (results-are making byte makes first count (a + 1) n m h (omega (arith, k)))
    ∙ ap (take (suc n)) (sym (drop_more s.bytes a 0 (omega (arith, k, size))))

-- the rows' bytes
pub combines : (c : ByteCombination) (first second : ℕ) → Makes (combining c first second) (combined_byte c first second)
combines c first second = by c where
  both : (c : ByteCombination) (i : ℕ) (reads : ℕ → Reading ℕ) (m : Machine) (s : Storage) → ((a : ℕ) → run (reads a) m ≡ byte_at s a)
      → run (bind (reads (first + i)) (λ a. bind (reads (second + i)) (λ b. done (byte_result c a b)))) m ≡ combined_byte c first second i s
  both c i reads m s h =
      run-bind (reads (first + i)) (λ a. bind (reads (second + i)) (λ b. done (byte_result c a b))) m
      ∙ run-bind (reads (second + i)) (λ b. done (byte_result c (run (reads (first + i)) m) b)) m
      ∙ ap (λ a. byte_result c a (run (reads (second + i)) m)) (h (first + i))
      ∙ ap (λ b. byte_result c (byte_at s (first + i)) b) (h (second + i))

  by : (c : ByteCombination) → Makes (combining c first second) (combined_byte c first second)
  by Second i reads m s h = h (second + i)
  by c i reads m s h = both c i reads m s h

pub translates : (table first : ℕ) → Makes (translating table first) (translated_byte table first)
translates table first i reads m s h =
    run-bind (reads (first + i)) (λ b. reads (function_address table b)) m
    ∙ ap (λ b. run (reads (function_address table b)) m) (h (first + i))
    ∙ h (function_address table (byte_at s (first + i)))

-- what the accesses to two operands meet
pub both-met-is : (first second : Reading Checked) (a b : Checked) (m : Machine) → run first m ≡ a → run second m ≡ b
    → run (both_met first second) m ≡ conditions_of (met_of_both a b)
both-met-is first second a b m e f =
    run-bind first (λ x. bind second (λ y. done (conditions_of (met_of_both x y)))) m
    ∙ run-bind second (λ y. done (conditions_of (met_of_both (run first m) y))) m
    ∙ rw (e, f) refl

pub fields-are : (kind : Access) (first second : Field) (next : ℕ) (long : InstructionLength) (m : Machine)
    → run (fields_read (profile_of m.core) kind first second) m ≡ fields_conditions (view_in m next long) kind first second
fields-are kind first second next long m =
    let key : ℕ = protection_key_of m.core.psw
    in both-met-is (field_read (profile_of m.core) kind first key) (field_read (profile_of m.core) Access.Fetch second key) _ _ m
    (access-is first.address first.count kind key m) (access-is second.address second.count Access.Fetch key m)

both-clear : (a b : Checked) → met_of_both a b ≡ Checked.Clear → (a ≡ Checked.Clear) × (b ≡ Checked.Clear)
both-clear Checked.Clear b h = (refl, h)
both-clear Checked.Addressing b h = absurd (cc)
both-clear Checked.Protection Checked.Clear h = absurd (cc)
both-clear Checked.Protection Checked.Addressing h = absurd (cc)
both-clear Checked.Protection Checked.Protection h = absurd (cc)

-- the first of two accesses that meet nothing is inside storage
pub first-inside : (m : Core) (address count : ℕ) (kind : Access) (key : ℕ) (other : Checked)
    → program_code (conditions_of (met_of_both (access m.storage address count kind key) other)) ≡ None → address + count ≤ length m.storage.bytes
first-inside m address count kind key other h =
    clear-inside m address count kind key
    (both-clear (access m.storage address count kind key) other (met-nothing (met_of_both (access m.storage address count kind key) other) false h)).0

pub second-inside : (m : Core) (address count : ℕ) (kind : Access) (key : ℕ) (other : Checked)
    → program_code (conditions_of (met_of_both other (access m.storage address count kind key))) ≡ None → address + count ≤ length m.storage.bytes
second-inside m address count kind key other h =
    clear-inside m address count kind key
    (both-clear other (access m.storage address count kind key) (met-nothing (met_of_both other (access m.storage address count kind key)) false h)).1
