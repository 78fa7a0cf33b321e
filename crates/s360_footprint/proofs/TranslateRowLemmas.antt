-- TRANSLATE and TRANSLATE AND TEST do what their definitions say.
use Rattle.std.proofs.Common.{ℕ, zero, suc, ◌+◌, ◌≡◌, ◌≤◌, ◌∙◌, Bool, true, false, cond, nat_eq, nat_le, Option, Some, None, [], ◌∷◌, refl, sym, ap}
use Rattle.std.proofs.Common.{get_or, length, arith}
use Rattle.std.proofs.lemmas.Bool.{leb-true}
use Rattle.std.proofs.lemmas.List.{length-set}
use Rattle.std.specs.Option.{option_map}
use Rattle.s360_model.specs.{Core.Core, Psw.protection_key_of, Storage.Storage}
use Rattle.s360_psw.specs.declared.instruction_length.InstructionLength.{InstructionLength}
use Rattle.s360_store.specs.declared.protection.{Access.Access, Checked.Checked}
use Rattle.s360_store.specs.Protection.{access, met_of_both}
use Rattle.s360_fixed.specs.{Operands.conditions_of}
use Rattle.s360_fixed.specs.Alterations.{Alteration, no_register, set_to}
use Rattle.s360_logic.specs.Bytes.{byte_at, completed_with, with_byte}
use Rattle.s360_logic.specs.LeftToRight.{field_at, found_at, function_access, function_address, function_byte, search_access, search_conditions, search_outcome}
use Rattle.s360_logic.specs.LeftToRight.{translate_access, translate_and_test_outcome, translate_conditions, translate_outcome, translated, translated_byte}
use Rattle.s360_logic.specs.LeftToRight.{with_address, with_low_byte}
use Rattle.s360_machine.specs.Machine.{Machine}
use Rattle.s360_footprint.specs.Altering.{altering_row, happened, view_in, with_outcome}
use Rattle.s360_footprint.specs.LeftToRightRows.{byte_after, field_read, found_altering, found_code, function_met, made_of_found}
use Rattle.s360_footprint.specs.LeftToRightRows.{made_stores, search_conditions_read, search_met}
use Rattle.s360_footprint.specs.LeftToRightRows.{search_read, searched_row, stored_row, translate_and_test_row, translate_conditions_read, translate_met}
use Rattle.s360_footprint.specs.LeftToRightRows.{translate_row, translating}
use Rattle.s360_footprint.specs.OperandReadings.{profile_of}
use Rattle.s360_footprint.specs.Readings.{Reading, bind, done, run}
use Rattle.s360_footprint.proofs.AlteringLemmas.{altering-as, conditioned, conditioned-when, happened-bind}
use Rattle.s360_footprint.proofs.LeftToRightLemmas.{both-met-is, byte-is, first-inside, made, made-front, made-stored, translates}
use Rattle.s360_footprint.proofs.LeftToRightRowLemmas.{stored-is}
use Rattle.s360_footprint.proofs.OperandLemmas.{access-is}
use Rattle.s360_footprint.proofs.ReadingLemmas.{run-bind}

-- bytes that are made alter no key
one-byte : (s : Storage) (at b a count key : ℕ) → access (with_byte at b s) a count Access.Fetch key ≡ access s a count Access.Fetch key
one-byte s at b a count key = rw (length-set s.bytes at b) refl

access-after : (byte : ℕ → Storage → ℕ) (first n : ℕ) (s : Storage) (a count key : ℕ)
    → access (made byte first n s) a count Access.Fetch key ≡ access s a count Access.Fetch key
access-after byte first zero s a count key = refl
access-after byte first (suc n) s a count key =
    one-byte (made byte first n s) (first + n) (byte n (made byte first n s)) a count key ∙ access-after byte first n s a count key

-- what the fetches of function bytes meet
abbrev after : ℕ → ℕ → ℕ → Machine → Storage
after table first i m = made (translated_byte table first) first i m.core.storage

translate-met-is : (table key first i n : ℕ) (m : Machine) → first + (i + n) ≤ length m.core.storage.bytes
    → run (translate_met (profile_of m.core) table key first i n) m ≡ translate_access table key first i n (after table first i m)
translate-met-is table key first i zero m h = refl
translate-met-is table key first i (suc n) m h =
    let s : Storage = after table first i m
    in let b : ℕ = byte_at s (first + i)
    in let e : run (byte_after (translating table first) first i (first + i)) m ≡ b
    = byte-is (translating table first) (translated_byte table first) (translates table first) first m i (first + i) (omega (arith, h))
    in let f : run (function_met (profile_of m.core) table key b) m ≡ function_access table key (first + i) s
    = access-is (function_address table b) 1 Access.Fetch key m
    ∙ sym (access-after (translated_byte table first) first i m.core.storage (function_address table b) 1 key)
    in let next : i + 1 ≡ suc i = omega arith
    in let g : run (translate_met (profile_of m.core) table key first (i + 1) n) m ≡ translate_access table key first (i + 1) n (after table first (suc i) m)
    = translate-met-is table key first (i + 1) n m (omega (arith, h)) ∙ ap (λ j. translate_access table key first (i + 1) n (after table first j m)) next
    in run-bind (byte_after (translating table first) first i (first + i))
    (λ b. bind (function_met (profile_of m.core) table key b)
    (λ met. bind (translate_met (profile_of m.core) table key first (i + 1) n) (λ later. done (met_of_both met later)))) m
    ∙ ap (λ b. run (bind (function_met (profile_of m.core) table key b)
    (λ met. bind (translate_met (profile_of m.core) table key first (i + 1) n) (λ later. done (met_of_both met later)))) m) e
    ∙ run-bind (function_met (profile_of m.core) table key b)
    (λ met. bind (translate_met (profile_of m.core) table key first (i + 1) n) (λ later. done (met_of_both met later))) m
    ∙ run-bind (translate_met (profile_of m.core) table key first (i + 1) n)
    (λ later. done (met_of_both (run (function_met (profile_of m.core) table key b) m) later)) m
    ∙ ap (λ met. met_of_both met (run (translate_met (profile_of m.core) table key first (i + 1) n) m)) f
    ∙ ap (met_of_both (function_access table key (first + i) s)) g

-- an operand outside storage comes before what they meet
outside : (m : Core) (a count : ℕ) (kind : Access) (key : ℕ) → nat_le (a + count) (length m.storage.bytes) ≡ false
    → access m.storage a count kind key ≡ Checked.Addressing
outside m a count kind key e = rw e refl

translate-conditions-are : (first table count next : ℕ) (long : InstructionLength) (m : Machine)
    → run (translate_conditions_read (profile_of m.core) first table count) m ≡ translate_conditions (view_in m next long) first table count
translate-conditions-are first table count next long m = by (nat_le (first + count) (length m.core.storage.bytes)) refl where
  by : (z : Bool) → nat_le (first + count) (length m.core.storage.bytes) ≡ z
      → run (translate_conditions_read (profile_of m.core) first table count) m ≡ translate_conditions (view_in m next long) first table count
  by true e =
      let key : ℕ = protection_key_of m.core.psw
      in let inside : first + count ≤ length m.core.storage.bytes = leb-true (first + count) (length m.core.storage.bytes) e
      in both-met-is (field_read (profile_of m.core) Access.Store (field_at first count) key) (translate_met (profile_of m.core) table key first 0 count) _ _ m
      (access-is first count Access.Store key m) (translate-met-is table key first 0 count m (let z : 0 + count ≡ count = omega arith in rw z inside))
  by false e =
      let key : ℕ = protection_key_of m.core.psw
      in let out : access m.core.storage first count Access.Store key ≡ Checked.Addressing = outside m.core first count Access.Store key e
      in both-met-is (field_read (profile_of m.core) Access.Store (field_at first count) key)
      (translate_met (profile_of m.core) table key first 0 count) Checked.Addressing _ m
      (access-is first count Access.Store key m ∙ out) refl
      ∙ ap (λ a. conditions_of (met_of_both a (translate_access table key first 0 count m.core.storage))) (sym out)

pub translate-is : (first table count next : ℕ) (long : InstructionLength) (m : Machine)
    → happened (translate_row (profile_of m.core) first table count next) m ≡ with_outcome m (translate_outcome (view_in m next long) first table count)
translate-is first table count next long m =
    let s : Storage = translated table first count m.core.storage
    in conditioned-when (translate_conditions_read (profile_of m.core) first table count)
    (stored_row (made_stores (translating table first) first count) (done None) next) m _
    (completed_with (view_in m next long) None s) (translate-conditions-are first table count next long m)
    (λ clear. let inside : first + count ≤ length m.core.storage.bytes = first-inside m.core first count Access.Store (protection_key_of m.core.psw) _ clear
    in stored-is (made_stores (translating table first) first count) (done None) next long m s None
    (made-stored (translating table first) (translated_byte table first) (translates table first) first count m inside
    ∙ ap (λ t. record m { core = record m.core { storage = t } }) (sym (made-front (translated_byte table first) first count m.core.storage))) refl)

-- a search
met-or : (z : Bool) (met : Checked) (later : Reading Checked) (l : Checked) (m : Machine) → run later m ≡ l
    → run (cond z (bind later (λ x. done (met_of_both met x))) (done (met_of_both met Checked.Clear))) m ≡ met_of_both met (cond z l Checked.Clear)
met-or true met later l m e = run-bind later (λ x. done (met_of_both met x)) m ∙ ap (met_of_both met) e
met-or false met later l m e = refl

search-met-is : (table key first i n : ℕ) (m : Machine)
    → run (search_met (profile_of m.core) table key first i n) m ≡ search_access table key first i n m.core.storage
search-met-is table key first i zero m = refl
search-met-is table key first i (suc n) m =
    let s : Storage = m.core.storage
    in let b : ℕ = byte_at s (first + i)
    in let function : ℕ = function_byte table (first + i) s
    in let later : Reading Checked = search_met (profile_of m.core) table key first (i + 1) n
    in run-bind (function_met (profile_of m.core) table key b) _ m
    ∙ met-or (nat_eq function 0) (run (function_met (profile_of m.core) table key b) m) later (search_access table key first (i + 1) n s) m
    (search-met-is table key first (i + 1) n m)
    ∙ ap (λ met. met_of_both met (cond (nat_eq function 0) (search_access table key first (i + 1) n s) Checked.Clear))
    (access-is (function_address table b) 1 Access.Fetch key m)

search-conditions-are : (first table count next : ℕ) (long : InstructionLength) (m : Machine)
    → run (search_conditions_read (profile_of m.core) first table count) m ≡ search_conditions (view_in m next long) first table count
search-conditions-are first table count next long m =
    let key : ℕ = protection_key_of m.core.psw
    in both-met-is (field_read (profile_of m.core) Access.Fetch (field_at first count) key) (search_met (profile_of m.core) table key first 0 count) _ _ m
    (access-is first count Access.Fetch key m) (search-met-is table key first 0 count m)

abbrev with_function : ℕ → ℕ → Storage → ℕ → ℕ × ℕ
with_function table first s i = (i, function_byte table (first + i) s)

found-or : (z : Bool) (later : Reading (Option (ℕ × ℕ))) (found : Option ℕ) (table first i : ℕ) (s : Storage) (m : Machine)
    → run later m ≡ option_map (with_function table first s) found
    → run (cond z later (done (Some (with_function table first s i)))) m ≡ option_map (with_function table first s) (cond z found (Some i))
found-or true later found table first i s m e = e
found-or false later found table first i s m e = refl

search-is : (table first i n : ℕ) (m : Machine)
    → run (search_read table first i n) m ≡ option_map (with_function table first m.core.storage) (found_at table first i n m.core.storage)
search-is table first i zero m = refl
search-is table first i (suc n) m =
    found-or (nat_eq (function_byte table (first + i) m.core.storage) 0) (search_read table first (i + 1) n)
    (found_at table first (i + 1) n m.core.storage) table first i m.core.storage m
    (search-is table first (i + 1) n m)

searched-by : (search : Reading (Option (ℕ × ℕ))) (first table count next : ℕ) (long : InstructionLength) (m : Machine) (o : Option ℕ)
    → run search m ≡ option_map (with_function table first m.core.storage) o
    → happened (altering_row (found_altering search first count next (option_map (with_function table first m.core.storage) o))) m
    ≡ with_outcome m (search_outcome o (view_in m next long) first table count)
searched-by search first table count next long m None e =
    let code : run (bind search (λ f. done (Some (found_code count f)))) m ≡ Some 0 = run-bind search (λ f. done (Some (found_code count f))) m
    ∙ ap (λ f. Some (found_code count f)) e
    in altering-as (found_altering search first count next None) (no_register (set_to 0) next) m (rw code refl)
searched-by search first table count next long m (Some i) e =
    let found : ℕ × ℕ = with_function table first m.core.storage i
    in let code : run (bind search (λ f. done (Some (found_code count f)))) m ≡ Some (found_code count (Some found))
    = run-bind search (λ f. done (Some (found_code count f))) m ∙ ap (λ f. Some (found_code count f)) e
    in let address : run (bind search (λ f. done (made_of_found (λ word (f : ℕ × ℕ). with_address word (first + f.0)) (get_or m.core.registers 1 0) f))) m
    ≡ with_address (get_or m.core.registers 1 0) (first + i)
    = run-bind search _ m ∙ ap (made_of_found (λ word (f : ℕ × ℕ). with_address word (first + f.0)) (get_or m.core.registers 1 0)) e
    in let function : run (bind search (λ f. done (made_of_found (λ word (f : ℕ × ℕ). with_low_byte word f.1) (get_or m.core.registers 2 0) f))) m
    ≡ with_low_byte (get_or m.core.registers 2 0) found.1
    = run-bind search _ m ∙ ap (made_of_found (λ word (f : ℕ × ℕ). with_low_byte word f.1) (get_or m.core.registers 2 0)) e
    in let altered : Alteration = record {
      registers = (1, with_address (get_or m.core.registers 1 0) (first + i)) ∷ ((2, with_low_byte (get_or m.core.registers 2 0) found.1) ∷ []);
      setting = set_to (found_code count (Some found));
      address = next;
    }
    in altering-as (found_altering search first count next (Some found)) altered m (rw (code, address, function) refl)

pub translate-and-test-is : (first table count next : ℕ) (long : InstructionLength) (m : Machine)
    → happened (translate_and_test_row (profile_of m.core) first table count next) m
    ≡ with_outcome m (translate_and_test_outcome (view_in m next long) first table count)
translate-and-test-is first table count next long m =
    let search : Reading (Option (ℕ × ℕ)) = search_read table first 0 count
    in let o : Option ℕ = found_at table first 0 count m.core.storage
    in let e : run search m ≡ option_map (with_function table first m.core.storage) o = search-is table first 0 count m
    in conditioned (search_conditions_read (profile_of m.core) first table count) (searched_row first table count next) m _
    (search_outcome o (view_in m next long) first table count)
    (search-conditions-are first table count next long m)
    (happened-bind search (λ found. altering_row (found_altering search first count next found)) m (option_map (with_function table first m.core.storage) o) e
    ∙ searched-by search first table count next long m o e)
