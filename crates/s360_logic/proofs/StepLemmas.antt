-- One step of each of the recursions on the bytes that remain.
use Rattle.std.proofs.Common.{◌≡◌, ◌≢◌, ◌<◌, ◌≤◌, ◌+◌, ◌-◌, ◌∙◌, ◌/◌, ℕ, zero, suc, Bool, ◌&&◌, ◌||◌, not, List, Option, None, Some, IfNone, length, map, arith, rules, refl, add-zero, ap, sym, slice_set, nat_eq, true, false, if◌then◌else◌, slice_index, le-leb, leb-true}
use Rattle.std.specs.List.{list_all, range_with_len}
use Rattle.std.proofs.lemmas.List.{places}
use Rattle.s360_model.specs.Storage.{Storage, is_inside}
use Rattle.s360_store.specs.Protection.{access, block_allows, is_allowed, met_of_both}
use Rattle.s360_fixed.specs.declared.program_code.ProgramCode.{ProgramCode}
use Rattle.s360_fixed.specs.Operands.{conditions_of}
use Rattle.s360_fixed.specs.ProgramCodes.{program_code}
use Rattle.s360_store.specs.declared.protection.Access.{Access}
use Rattle.s360_store.specs.declared.protection.Access.TheVariants.{Fetch}
use Rattle.s360_store.specs.declared.protection.Checked.{Checked}
use Rattle.s360_store.specs.declared.protection.Checked.TheVariants.{Addressing, Clear, Protection}
use Rattle.s360_logic.specs.Bytes.{byte_at, operand_bytes, with_byte}
use Rattle.s360_logic.specs.LeftToRight.{found_at, function_access, function_address, function_byte, search_access, translate_access, translated_byte}
use Rattle.s360_logic.specs.Operands.{FirstOperand, stored_in}
use Rattle.s360_logic.proofs.FieldLemmas.{first_operand, length-operand_bytes, stored_in-first, stored_in-set}

pub length-stored_in : (o : FirstOperand) → o.address + length o.bytes ≤ length o.storage.bytes → length (stored_in o).bytes ≡ length o.storage.bytes
length-stored_in o h = search (rules, places)

-- what accesses meet, one after another
pub met_of_both-last : (c : Checked) → met_of_both c Clear ≡ c
met_of_both-last Addressing = refl
met_of_both-last Protection = refl
met_of_both-last Clear = refl

pub met_of_both-outside : (c d : Checked) → d ≡ Addressing → met_of_both c d ≡ Addressing
met_of_both-outside Addressing d e = refl
met_of_both-outside Protection d e = rw e refl
met_of_both-outside Clear d e = e

met_of_both-assoc : (c d e : Checked) → met_of_both (met_of_both c d) e ≡ met_of_both c (met_of_both d e)
met_of_both-assoc Addressing d e = refl
met_of_both-assoc Clear d e = refl
met_of_both-assoc Protection Addressing e = refl
met_of_both-assoc Protection Protection Addressing = refl
met_of_both-assoc Protection Protection Protection = refl
met_of_both-assoc Protection Protection Clear = refl
met_of_both-assoc Protection Clear e = refl

-- one access more: what was met before it, it, and what the others meet
pub met-more : (before one one_more rest all now : Checked) → now ≡ met_of_both before one → one ≡ one_more → met_of_both one_more rest ≡ all → met_of_both now rest ≡ met_of_both before all
met-more before one one_more rest all now e f h =
    ap (λ x. met_of_both x rest) (e ∙ ap (met_of_both before) f) ∙ met_of_both-assoc before one_more rest ∙ ap (met_of_both before) h

-- where accesses have no program code
both-clear : (c d : Checked) → program_code (conditions_of (met_of_both c d)) ≡ None → d ≡ Clear
both-clear Addressing d h = absurd (cc)
both-clear Protection Addressing h = absurd (cc)
both-clear Protection Protection h = absurd (cc)
both-clear Protection Clear h = absurd (cc)
both-clear Clear Addressing h = absurd (cc)
both-clear Clear Protection h = absurd (cc)
both-clear Clear Clear h = refl

pub none-clear : (r : Option ProgramCode) (c d : Checked) → r ≡ program_code (conditions_of (met_of_both c d)) → IfNone r (d ≡ Clear)
none-clear None c d e = both-clear c d (sym e)
none-clear (Some code) c d e = tt

-- what an access meets does not depend on the bytes
pub access-stored_in : (o : FirstOperand) (at count : ℕ) (kind : Access) (key : ℕ) → o.address + length o.bytes ≤ length o.storage.bytes
    → access (stored_in o) at count kind key ≡ access o.storage at count kind key
access-stored_in o at count kind key h = rw (length-stored_in o h) refl

-- what the fetch of a byte meets that an address selects, of storage while bytes are stored
pub function_access-stored : (table key at selected : ℕ) (o : FirstOperand) (s : Storage) (one : Checked) → o.address + length o.bytes ≤ length o.storage.bytes → o.storage ≡ s
    → selected ≡ function_address table (byte_at (stored_in o) at) → one ≡ access s selected 1 Fetch key → one ≡ function_access table key at (stored_in o)
function_access-stored table key at selected o s one h e there met =
    met ∙ ap (λ x. access s x 1 Fetch key) there
    ∙ ap (λ t. access t (function_address table (byte_at (stored_in o) at)) 1 Fetch key) (sym e)
    ∙ sym (access-stored_in o (function_address table (byte_at (stored_in o) at)) 1 Fetch key h)

-- each byte of an operand that can be fetched can be fetched
abbrev check_of : Bool → Bool → Bool → Checked
check_of inside guarded allowed = if not inside then Addressing else (if guarded && not allowed then Protection else Clear)

clear-parts : (p q r : Bool) → check_of p q r ≡ Clear → (p ≡ true) × (q ≡ true → r ≡ true)
clear-parts false q r h = absurd (cc)
clear-parts true false r h = (refl, λ e. absurd (cc))
clear-parts true true false h = absurd (cc)
clear-parts true true true h = (refl, λ e. refl)

clear-from : (p q r : Bool) → p ≡ true → (q ≡ true → r ≡ true) → check_of p q r ≡ Clear
clear-from true false r h f = refl
clear-from true true r h f = rw (f refl) refl
clear-from false q r h f = absurd (cc)

or-weaker : (b c d : Bool) → (c ≡ true → d ≡ true) → (b || c) ≡ true → (b || d) ≡ true
or-weaker true c d f h = refl
or-weaker false c d f h = f h

and-first : (b c : Bool) → (b && c) ≡ true → (b && true) ≡ true
and-first true c h = refl
and-first false c h = h

and-second : (b c : Bool) → (b && c) ≡ true → c ≡ true
and-second true c h = h
and-second false c h = absurd (cc)

list_all-at : (test : ℕ → Bool) (keys : List ℕ) (n a v : ℕ) → v < n → list_all test (map (λ b. slice_index keys (b / 2048)) (range_with_len a n)) ≡ true
    → list_all test (map (λ b. slice_index keys (b / 2048)) (range_with_len (a + v) 1)) ≡ true
list_all-at test keys zero a v l h = absurd (omega arith)
list_all-at test keys (suc n) a zero l h = rw add-zero (and-first _ _ h)
list_all-at test keys (suc n) a (suc v) l h =
    let there : a + suc v ≡ a + 1 + v = omega arith
    in rw there (list_all-at test keys n (a + 1) v (omega arith) (and-second _ _ h))

pub access-within : (s : Storage) (table n v key : ℕ) → access s table n Fetch key ≡ Clear → v < n → access s (table + v) 1 Fetch key ≡ Clear
access-within s table n v key h l =
    let parts : (is_inside s table n ≡ true) × (s.fetch_protection ≡ true → is_allowed s table n Fetch key ≡ true) = clear-parts _ _ _ h
    in let inside : table + n ≤ length s.bytes = leb-true (table + n) (length s.bytes) parts.0
    in clear-from _ _ _ (le-leb (table + v + 1) (length s.bytes) (omega (arith, inside, l)))
    (λ e. or-weaker (nat_eq key 0) _ _ (list_all-at (block_allows Fetch key) s.keys n table v l) (parts.1 e))

-- translate
translate_access-step : (table key a i n : ℕ) (s : Storage) → i < n
    → met_of_both (function_access table key (a + i) s) (translate_access table key a (i + 1) (n - (i + 1)) (with_byte (a + i) (translated_byte table a i s) s)) ≡ translate_access table key a i (n - i) s
translate_access-step table key a i n s h =
    let more : n - i ≡ suc (n - (i + 1)) = omega arith
    in rw more refl

pub translate_access-met : (table key a i n : ℕ) (s : Storage) → i < n → function_access table key (a + i) s ≡ Addressing → translate_access table key a i (n - i) s ≡ Addressing
translate_access-met table key a i n s h met =
    let more : n - i ≡ suc (n - (i + 1)) = omega arith
    in rw (more, met) refl

-- one byte more that is stored: the storage is that of the definition
pub stored_in-next : (a i b c : ℕ) (o : FirstOperand) → i < length o.bytes → o.address ≡ a → o.address + length o.bytes ≤ length o.storage.bytes → b ≡ c
    → stored_in (record o { bytes = slice_set o.bytes i b }) ≡ with_byte (a + i) c (stored_in o)
stored_in-next a i b c o h here inside e =
    stored_in-set o i b h inside
    ∙ ap (λ x. with_byte (x + i) b (stored_in o)) here
    ∙ ap (λ x. with_byte (a + i) x (stored_in o)) e

pub translate_access-set : (table key a i n b : ℕ) (o : FirstOperand) → i < n → length o.bytes ≡ n → o.address ≡ a → o.address + length o.bytes ≤ length o.storage.bytes → b ≡ translated_byte table a i (stored_in o)
    → met_of_both (function_access table key (a + i) (stored_in o)) (translate_access table key a (i + 1) (n - (i + 1)) (stored_in (record o { bytes = slice_set o.bytes i b }))) ≡ translate_access table key a i (n - i) (stored_in o)
translate_access-set table key a i n b o h len here inside e =
    rw (stored_in-next a i b (translated_byte table a i (stored_in o)) o (omega (arith, len, h)) here inside e) (translate_access-step table key a i n (stored_in o) h)

-- translate and test
nat_eq-zero : (n : ℕ) → n ≢ 0 → nat_eq n 0 ≡ false
nat_eq-zero n h = search rules

pub found_at-step : (table a i n : ℕ) (s : Storage) → i < n → function_byte table (a + i) s ≡ 0 → found_at table a (i + 1) (n - (i + 1)) s ≡ found_at table a i (n - i) s
found_at-step table a i n s h none =
    let more : n - i ≡ suc (n - (i + 1)) = omega arith
    in rw more (sym (rw none refl))

pub found_at-met : (table a i n : ℕ) (s : Storage) → i < n → function_byte table (a + i) s ≢ 0 → found_at table a i (n - i) s ≡ Some i
found_at-met table a i n s h other =
    let more : n - i ≡ suc (n - (i + 1)) = omega arith
    in rw (more, nat_eq-zero _ other) refl

pub search_access-step : (table key a i n : ℕ) (s : Storage) → i < n → function_byte table (a + i) s ≡ 0
    → met_of_both (function_access table key (a + i) s) (search_access table key a (i + 1) (n - (i + 1)) s) ≡ search_access table key a i (n - i) s
search_access-step table key a i n s h none =
    let more : n - i ≡ suc (n - (i + 1)) = omega arith
    in rw more (sym (rw none refl))

pub search_access-end : (table key a i n : ℕ) (s : Storage) → i < n → function_byte table (a + i) s ≢ 0 → function_access table key (a + i) s ≡ search_access table key a i (n - i) s
search_access-end table key a i n s h other =
    let more : n - i ≡ suc (n - (i + 1)) = omega arith
    in rw (more, nat_eq-zero _ other) (sym (met_of_both-last (function_access table key (a + i) s)))

pub search_access-met : (table key a i n : ℕ) (s : Storage) → i < n → function_access table key (a + i) s ≡ Addressing → search_access table key a i (n - i) s ≡ Addressing
search_access-met table key a i n s h met =
    let more : n - i ≡ suc (n - (i + 1)) = omega arith
    in rw (more, met) refl

-- a single byte
pub stored_in-single : (s : Storage) (a b : ℕ) → a < length s.bytes → stored_in (record (first_operand s a 1) { bytes = slice_set (operand_bytes s a 1) 0 b }) ≡ with_byte a b s
stored_in-single s a b h =
    let inside : a + 1 ≤ length s.bytes = omega (arith, h)
    in let one : length (operand_bytes s a 1) ≡ 1 = length-operand_bytes s a 1 inside
    in let set = stored_in-set (first_operand s a 1) 0 b (omega (arith, one)) (omega (arith, one, inside))
    in set ∙ ap (λ (x : ℕ). with_byte x b (stored_in (first_operand s a 1))) (add-zero a) ∙ ap (λ (x : Storage). with_byte a b x) (stored_in-first s a 1 inside)
