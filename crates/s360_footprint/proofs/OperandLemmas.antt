-- Operands: what is read of them is what their definitions say.
use Rattle.std.proofs.Common.{ℕ, zero, suc, ◌+◌, ◌-◌, ◌*◌, ◌/◌, ◌%◌, ◌^◌, ◌≡◌, ◌≤◌, ◌∙◌, ◌&&◌, ◌||◌, not, Bool, true, false, cond, None, List, ◌∷◌, refl}
use Rattle.std.proofs.Common.{ap, sym, nat_eq, nat_le, get_or, length, arith}
use Rattle.std.proofs.lemmas.Bool.{eqb-true, eqb-false, leb-true}
use Rattle.std.specs.List.{list_all}
use Rattle.s360_model.specs.{Core.Core, Psw.protection_key_of, Storage.keys_of_operand, Storage.number_at}
use Rattle.s360_store.specs.declared.protection.{Access.Access, Checked.Checked}
use Rattle.s360_store.specs.Protection.{access, block_allows, is_protected}
use Rattle.s360_fixed.specs.declared.second_operand.{SecondOperand.SecondOperand, Width.Width}
use Rattle.s360_fixed.specs.Operands.{access_conditions, address_part, bytes_of_width, conditions_of, extended_halfword, operand_address, storage_operand}
use Rattle.s360_fixed.specs.Operands.{word_in, word_operand}
use Rattle.s360_fixed.specs.ProgramCodes.{Conditions, program_code}
use Rattle.s360_machine.specs.Machine.{Machine}
use Rattle.s360_footprint.specs.OperandReadings.{access_read, address_read, conditions_read, guards, keys_read, met_with, number_read, operand_in}
use Rattle.s360_footprint.specs.OperandReadings.{operand_keys_read, part_read, profile_of, register_operand, second_operand_read, word_read}
use Rattle.s360_footprint.specs.Readings.{Reading, bind, done, run, value_read}
use Rattle.s360_store.specs.declared.place.Place.TheVariants.{Register}
use Rattle.s360_footprint.proofs.ReadingLemmas.{run-bind}

part-is : (r : ℕ) (m : Machine) → run (part_read r) m ≡ address_part m.core.registers r
part-is r m = by (nat_eq r 0) where
  by : (z : Bool) → run (cond z (done 0) (value_read (Register r))) m ≡ cond z 0 (get_or m.core.registers r 0)
  by true = refl
  by false = refl

pub address-is : (index base displacement : ℕ) (m : Machine)
    → run (address_read index base displacement) m ≡ operand_address m.core.registers index base displacement
address-is index base displacement m =
    run-bind (part_read index) (λ i. bind (part_read base) (λ b. done ((i + b + displacement) % 2 ^ 24))) m
    ∙ run-bind (part_read base) (λ b. done ((run (part_read index) m + b + displacement) % 2 ^ 24)) m
    ∙ rw (part-is index m, part-is base m) refl

pub number-is : (address count : ℕ) (m : Machine) → run (number_read address count) m ≡ number_at m.core.storage.bytes address count
number-is address zero m = refl
number-is address (suc n) m =
    let b : ℕ = get_or m.core.storage.bytes address 0
    in let next : suc address ≡ address + 1 = omega arith
    in run-bind (number_read (address + 1) n) (λ rest. done (b * 256 ^ n + rest)) m
    ∙ rw next (ap (λ rest. b * 256 ^ n + rest) (number-is (address + 1) n m))

-- the keys of blocks, each once, and of each byte
all-of : (f : ℕ → Bool) (block n : ℕ) (m : Machine)
    → list_all f (run (keys_read block (suc n)) m) ≡ f (get_or m.core.storage.keys block 0) && list_all f (run (keys_read (block + 1) n) m)
all-of f block n m =
    ap (list_all f) (run-bind (keys_read (block + 1) n) (λ ks. done (get_or m.core.storage.keys block 0 ∷ ks)) m)

twice : (x y : Bool) → x && (x && y) ≡ x && y
twice true y = refl
twice false y = refl

same-block : (f : ℕ → Bool) (m : Machine) (block c : ℕ) (x : Bool) → list_all f (run (keys_read block (suc c)) m) ≡ x
    → list_all f (run (keys_read block (suc c)) m) ≡ f (get_or m.core.storage.keys block 0) && x
same-block f m block c x h =
    let k : Bool = f (get_or m.core.storage.keys block 0)
    in all-of f block c m ∙ sym (twice k (list_all f (run (keys_read (block + 1) c) m))) ∙ ap (λ t. k && t) (sym (all-of f block c m) ∙ h)

next-block : (f : ℕ → Bool) (m : Machine) (block c : ℕ) (x : Bool) → list_all f (run (keys_read (block + 1) c) m) ≡ x
    → list_all f (run (keys_read block (suc c)) m) ≡ f (get_or m.core.storage.keys block 0) && x
next-block f m block c x h = all-of f block c m ∙ ap (λ t. f (get_or m.core.storage.keys block 0) && t) h

keys-are : (f : ℕ → Bool) (m : Machine) (a n : ℕ) → list_all f (run (operand_keys_read a n) m) ≡ list_all f (keys_of_operand m.core.storage a n)
keys-are f m a zero = refl
keys-are f m a (suc zero) =
    let one : (a + 0) / 2048 - a / 2048 + 1 ≡ suc 0 = omega arith
    in rw one (all-of f (a / 2048) 0 m)
keys-are f m a (suc (suc n)) = by (nat_eq ((a + 1) / 2048) (a / 2048)) refl (keys-are f m (a + 1) (suc n)) where
  by : (z : Bool) → nat_eq ((a + 1) / 2048) (a / 2048) ≡ z
      → list_all f (run (keys_read ((a + 1) / 2048) ((a + 1 + n) / 2048 - (a + 1) / 2048 + 1)) m) ≡ list_all f (keys_of_operand m.core.storage (a + 1) (suc n))
      → list_all f (run (keys_read (a / 2048) ((a + suc n) / 2048 - a / 2048 + 1)) m)
      ≡ f (get_or m.core.storage.keys (a / 2048) 0) && list_all f (keys_of_operand m.core.storage (a + 1) (suc n))
  by true e h =
      let d : (a + 1) / 2048 ≡ a / 2048 = eqb-true ((a + 1) / 2048) (a / 2048) e
      in let whole : (a + suc n) / 2048 - a / 2048 + 1 ≡ suc ((a + 1 + n) / 2048 - a / 2048) = let s : a + suc n ≡ a + 1 + n = omega arith in rw s (omega arith)
      in let part : (a + 1 + n) / 2048 - a / 2048 + 1 ≡ suc ((a + 1 + n) / 2048 - a / 2048) = omega arith
      in let i : list_all f (run (keys_read (a / 2048) ((a + 1 + n) / 2048 - a / 2048 + 1)) m) ≡ list_all f (keys_of_operand m.core.storage (a + 1) (suc n))
      = ap (λ b. list_all f (run (keys_read b ((a + 1 + n) / 2048 - b + 1)) m)) (sym d) ∙ h
      in let j : list_all f (run (keys_read (a / 2048) (suc ((a + 1 + n) / 2048 - a / 2048))) m)
      ≡ list_all f (keys_of_operand m.core.storage (a + 1) (suc n)) = ap (λ c. list_all f (run (keys_read (a / 2048) c) m)) (sym part) ∙ i
      in rw whole (same-block f m (a / 2048) ((a + 1 + n) / 2048 - a / 2048) (list_all f (keys_of_operand m.core.storage (a + 1) (suc n))) j)
  by false e h =
      let k : (a + 1) / 2048 ≡ a / 2048 → ⊥ = eqb-false ((a + 1) / 2048) (a / 2048) e
      in let d : (a + 1) / 2048 ≡ a / 2048 + 1 = omega (arith, k)
      in let whole : (a + suc n) / 2048 - a / 2048 + 1 ≡ suc ((a + 1 + n) / 2048 - (a / 2048 + 1) + 1)
      = let s : a + suc n ≡ a + 1 + n = omega arith in rw s (omega (arith, d))
      in let i : list_all f (run (keys_read (a / 2048 + 1) ((a + 1 + n) / 2048 - (a / 2048 + 1) + 1)) m)
      ≡ list_all f (keys_of_operand m.core.storage (a + 1) (suc n))
      = ap (λ b. list_all f (run (keys_read b ((a + 1 + n) / 2048 - b + 1)) m)) (sym d) ∙ h
      in rw whole (next-block f m (a / 2048) ((a + 1 + n) / 2048 - (a / 2048 + 1) + 1) (list_all f (keys_of_operand m.core.storage (a + 1) (suc n))) i)

-- what an access meets
guarded : (m : Machine) (kind : Access) → guards (profile_of m.core) kind ≡ is_protected m.core.storage kind
guarded m Access.Fetch = refl
guarded m Access.Store = refl

checked : (r : Reading (List ℕ)) (kind : Access) (key : ℕ) (m : Machine) (l : List ℕ) (inside guard zero_key : Bool)
    → list_all (block_allows kind key) (run r m) ≡ list_all (block_allows kind key) l
    → run (cond (not inside) (done Checked.Addressing) (cond (guard && not zero_key) (bind r (λ keys. done (met_with kind key keys))) (done Checked.Clear))) m
    ≡ cond (not inside) Checked.Addressing (cond (guard && not (zero_key || list_all (block_allows kind key) l)) Checked.Protection Checked.Clear)
checked r kind key m l false guard z h = refl
checked r kind key m l true false z h = refl
checked r kind key m l true true true h = refl
checked r kind key m l true true false h = run-bind r (λ keys. done (met_with kind key keys)) m ∙ ap (λ t. cond (not t) Checked.Protection Checked.Clear) h

pub access-is : (address count : ℕ) (kind : Access) (key : ℕ) (m : Machine)
    → run (access_read (profile_of m.core) address count kind key) m ≡ access m.core.storage address count kind key
access-is address count kind key m =
    let inside : Bool = nat_le (address + count) (length m.core.storage.bytes)
    in ap (λ g. run (cond (not inside) (done Checked.Addressing)
    (cond (g && not (nat_eq key 0)) (bind (operand_keys_read address count) (λ keys. done (met_with kind key keys))) (done Checked.Clear))) m) (guarded m kind)
    ∙ checked (operand_keys_read address count) kind key m (keys_of_operand m.core.storage address count) inside (is_protected m.core.storage kind)
    (nat_eq key 0) (keys-are (block_allows kind key) m address count)

abbrev met_on : ℕ → ℕ → Checked → Conditions
met_on address boundary met = record (conditions_of met) { specification = not (nat_eq (address % boundary) 0) }

pub conditions-are : (address boundary count : ℕ) (kind : Access) (m : Machine)
    → run (conditions_read (profile_of m.core) address boundary count kind) m ≡ access_conditions m.core address boundary count kind
conditions-are address boundary count kind m =
    let key : ℕ = protection_key_of m.core.psw
    in run-bind (access_read (profile_of m.core) address count kind key) (λ met. done (met_on address boundary met)) m
    ∙ ap (met_on address boundary) (access-is address count kind key m)

-- a second operand
word-is : (width : Width) (address : ℕ) (m : Machine) → run (word_read width address) m ≡ word_in width m.core.storage.bytes address
word-is Width.Byte address m = refl
word-is Width.Halfword address m = run-bind (number_read address 2) (λ half. done (extended_halfword half)) m ∙ ap extended_halfword (number-is address 2 m)
word-is Width.Word address m = number-is address 4 m

pub register-operand-is : (r : ℕ) (m : Machine) → operand_in (register_operand r) m ≡ word_operand (get_or m.core.registers r 0)
register-operand-is r m = refl

pub second-operand-is : (second : SecondOperand) (parts : Reading ℕ) (address : ℕ) (m : Machine) → run parts m ≡ address
    → operand_in (second_operand_read (profile_of m.core) second parts address) m ≡ storage_operand m.core second address
second-operand-is (SecondOperand.InStorage width) parts address m e =
    rw (conditions-are address (bytes_of_width width) (bytes_of_width width) Access.Fetch m, word-is width address m) refl
second-operand-is SecondOperand.Address parts address m e = ap word_operand e

-- an access that meets nothing is inside storage
pub met-nothing : (met : Checked) (s : Bool) → program_code (record (conditions_of met) { specification = s }) ≡ None → met ≡ Checked.Clear
met-nothing Checked.Clear s h = refl
met-nothing Checked.Addressing true h = absurd (cc)
met-nothing Checked.Addressing false h = absurd (cc)
met-nothing Checked.Protection true h = absurd (cc)
met-nothing Checked.Protection false h = absurd (cc)

not-outside : (inside : Bool) (met : Checked) → cond (not inside) Checked.Addressing met ≡ Checked.Clear → inside ≡ true
not-outside true met h = refl
not-outside false met h = absurd (cc)

pub clear-inside : (m : Core) (address count : ℕ) (kind : Access) (key : ℕ) → access m.storage address count kind key ≡ Checked.Clear
    → address + count ≤ length m.storage.bytes
clear-inside m address count kind key h
    = leb-true (address + count) (length m.storage.bytes) (not-outside (nat_le (address + count) (length m.storage.bytes)) _ h)

pub conditions-inside : (m : Core) (address boundary count : ℕ) (kind : Access) → program_code (access_conditions m address boundary count kind) ≡ None
    → address + count ≤ length m.storage.bytes
conditions-inside m address boundary count kind h =
    clear-inside m address count kind (protection_key_of m.psw)
    (met-nothing (access m.storage address count kind (protection_key_of m.psw)) (not (nat_eq (address % boundary) 0)) h)
