-- MOVE WITH OFFSET, PACK and UNPACK do what their definitions say.
use Rattle.std.proofs.Common.{ℕ, zero, suc, ◌+◌, ◌-◌, ◌*◌, ◌/◌, ◌%◌, ◌≡◌, ◌<◌, ◌≤◌, ◌∙◌, Bool, true, false, cond, nat_eq, nat_lt, None, refl}
use Rattle.std.proofs.Common.{sym, ap, length, arith}
use Rattle.std.proofs.lemmas.Bool.{eqb-true, eqb-false, lt-ltb}
use Rattle.std.proofs.lemmas.List.{get_or-set_same, get_or-set_other, length-set}
use Rattle.s360_model.specs.{Psw.protection_key_of, Storage.Storage}
use Rattle.s360_psw.specs.declared.instruction_length.InstructionLength.{InstructionLength}
use Rattle.s360_store.specs.declared.{protection.Access.Access}
use Rattle.s360_logic.specs.declared.{field.Field.Field, row.DigitRow.DigitRow}
use Rattle.s360_logic.specs.Bytes.{byte_at, completed_with, with_byte}
use Rattle.s360_logic.specs.RightToLeft.{DigitMove, address_from_right, byte_from_right, digits, digits_outcome, digits_stored, exchanged, first_user}
use Rattle.s360_logic.specs.RightToLeft.{made_byte, result_byte, source_byte, storage_after, storage_before, zone_of}
use Rattle.s360_machine.specs.Machine.{Machine}
use Rattle.s360_footprint.specs.Altering.{completed_row, happened, view_in, with_outcome}
use Rattle.s360_footprint.specs.DigitRows.{DigitOperands, byte_before, digit_read, digit_stores, digits_row, exchanged_read, from_right_read, made_digit}
use Rattle.s360_footprint.specs.DigitRows.{pair_of_digits, source_read, upper_read, zoned_read}
use Rattle.s360_footprint.specs.LeftToRightRows.{fields_read}
use Rattle.s360_footprint.specs.OperandReadings.{profile_of}
use Rattle.s360_footprint.specs.Readings.{Reading, bind, done, run}
use Rattle.s360_footprint.specs.Rows.{with_stores}
use Rattle.s360_footprint.proofs.AlteringLemmas.{conditioned-when}
use Rattle.s360_footprint.proofs.LeftToRightLemmas.{fields-are, first-inside}
use Rattle.s360_footprint.proofs.LeftToRightRowLemmas.{stored-is}
use Rattle.s360_footprint.proofs.ReadingLemmas.{run-bind}
use Rattle.s360_footprint.proofs.SequenceLemmas.{stores-append}

-- digits of bytes that are read
pair-is : (high low : Reading ℕ) (h l : ℕ) (m : Machine) → run high m ≡ h → run low m ≡ l → run (pair_of_digits high low) m ≡ digits h l
pair-is high low h l m e f =
    run-bind high (λ x. bind low (λ y. done (digits x y))) m ∙ run-bind low (λ y. done (digits (run high m) y)) m
    ∙ ap (λ x. digits x (run low m)) e ∙ ap (digits h) f

exchanged-is : (byte : Reading ℕ) (b : ℕ) (m : Machine) → run byte m ≡ b → run (exchanged_read byte) m ≡ exchanged b
exchanged-is byte b m e = run-bind byte (λ x. done (exchanged x)) m ∙ ap exchanged e

upper-is : (byte : Reading ℕ) (b : ℕ) (m : Machine) → run byte m ≡ b → run (upper_read byte) m ≡ b / 16
upper-is byte b m e = run-bind byte (λ x. done (x / 16)) m ∙ ap (λ x. x / 16) e

zoned-is : (digit : Reading ℕ) (b : ℕ) (m : Machine) → run digit m ≡ b → run (zoned_read digit) m ≡ digits (zone_of m.core.psw) b
zoned-is digit b m e = run-bind digit (λ x. done (digits (zone_of m.core.psw) x)) m ∙ ap (digits (zone_of m.core.psw)) e

-- one or the other
either : (z : Bool) (r s : Reading ℕ) (x y : ℕ) (m : Machine) → run r m ≡ x → run s m ≡ y → run (cond z r s) m ≡ cond z x y
either true r s x y m e f = e
either false r s x y m e f = f

from-right-is : (field : Field) (bytes : ℕ → Reading ℕ) (s : Storage) (i : ℕ) (m : Machine) → ((a : ℕ) → run (bytes a) m ≡ byte_at s a)
    → run (from_right_read field bytes i) m ≡ byte_from_right field s i
from-right-is field bytes s i m h = either (nat_lt i field.count) (bytes (address_from_right field i)) (done 0) _ 0 m (h (address_from_right field i)) refl

-- the byte of the result
digit-is : (row : DigitRow) (rightmost : Reading ℕ) (source : ℕ → Reading ℕ) (r : ℕ) (f : ℕ → ℕ) (i : ℕ) (m : Machine) → run rightmost m ≡ r
    → ((j : ℕ) → run (source j) m ≡ f j)
    → run (digit_read row rightmost source i) m ≡ result_byte row (zone_of m.core.psw) r f i
digit-is DigitRow.MoveWithOffset rightmost source r f i m e h =
    pair-is (source i) (cond (nat_eq i 0) rightmost (upper_read (source (i - 1)))) (f i) _ m (h i)
    (either (nat_eq i 0) rightmost (upper_read (source (i - 1))) r (f (i - 1) / 16) m e (upper-is (source (i - 1)) (f (i - 1)) m (h (i - 1))))
digit-is DigitRow.Pack rightmost source r f i m e h =
    either (nat_eq i 0) (exchanged_read (source 0)) (pair_of_digits (source (2 * i)) (source (2 * i - 1))) _ _ m
    (exchanged-is (source 0) (f 0) m (h 0)) (pair-is (source (2 * i)) (source (2 * i - 1)) (f (2 * i)) (f (2 * i - 1)) m (h (2 * i)) (h (2 * i - 1)))
digit-is DigitRow.Unpack rightmost source r f i m e h =
    either (nat_eq i 0) (exchanged_read (source 0)) (zoned_read (cond (nat_eq (i % 2) 1) (source ((i + 1) / 2)) (upper_read (source (i / 2))))) _ _ m
    (exchanged-is (source 0) (f 0) m (h 0))
    (zoned-is (cond (nat_eq (i % 2) 1) (source ((i + 1) / 2)) (upper_read (source (i / 2)))) _ m
    (either (nat_eq (i % 2) 1) (source ((i + 1) / 2)) (upper_read (source (i / 2))) (f ((i + 1) / 2)) (f (i / 2) / 16) m (h ((i + 1) / 2))
    (upper-is (source (i / 2)) (f (i / 2)) m (h (i / 2)))))

abbrev move_of : DigitOperands → Machine → DigitMove
move_of d m = record { row = d.row; zone = zone_of m.core.psw; first = d.first; second = d.second }

made-is : (d : DigitOperands) (reads : ℕ → ℕ → Reading ℕ) (before : ℕ → Storage) (i : ℕ) (m : Machine) → ((k a : ℕ) → run (reads k a) m ≡ byte_at (before k) a)
    → run (made_digit d reads i) m ≡ made_byte (move_of d m) before i
made-is d reads before i m h =
    digit-is d.row (from_right_read d.first (reads 0) 0) (source_read d reads) (byte_from_right d.first (before 0) 0) (source_byte (move_of d m) before) i m
    (from-right-is d.first (reads 0) (before 0) 0 m (h 0))
    (λ j. from-right-is d.second (reads (first_user d.row j)) (before (first_user d.row j)) j m (h (first_user d.row j)))

-- storage before each byte of the result
before-length : (d : DigitMove) (s : Storage) (n i : ℕ) → length (storage_before d s n i).bytes ≡ length s.bytes
before-length d s zero i = refl
before-length d s (suc n) i = by (nat_lt n i) (before-length d s n n) (before-length d s n i) where
  by : (z : Bool) → length (storage_before d s n n).bytes ≡ length s.bytes → length (storage_before d s n i).bytes ≡ length s.bytes
      → length (cond z (storage_after d (storage_before d s n) n) (storage_before d s n i)).bytes ≡ length s.bytes
  by true last same = length-set (storage_before d s n n).bytes (address_from_right d.first n) (made_byte d (storage_before d s n) n) ∙ last
  by false last same = same

before-is : (d : DigitOperands) (n i a : ℕ) (m : Machine) → n ≤ d.first.count → d.first.address + d.first.count ≤ length m.core.storage.bytes
    → run (byte_before d n i a) m ≡ byte_at (storage_before (move_of d m) m.core.storage n i) a
before-is d zero i a m l h = refl
before-is d (suc n) i a m l h = by (nat_lt n i) (λ k b. before-is d n k b m (omega (arith, l)) h) where
  turn : (z : Bool) → nat_eq (address_from_right d.first n) a ≡ z
      → ((k b : ℕ) → run (byte_before d n k b) m ≡ byte_at (storage_before (move_of d m) m.core.storage n k) b)
      → run (cond z (made_digit d (byte_before d n) n) (byte_before d n n a)) m
      ≡ byte_at (storage_after (move_of d m) (storage_before (move_of d m) m.core.storage n) n) a
  turn true e f =
      let s : Storage = storage_before (move_of d m) m.core.storage n n
      in let b : ℕ = made_byte (move_of d m) (storage_before (move_of d m) m.core.storage n) n
      in let here : address_from_right d.first n ≡ a = eqb-true (address_from_right d.first n) a e
      in let within : address_from_right d.first n < length s.bytes = omega (arith, l, h, before-length (move_of d m) m.core.storage n n)
      in made-is d (byte_before d n) (storage_before (move_of d m) m.core.storage n) n m f
      ∙ sym (get_or-set_same s.bytes (address_from_right d.first n) b 0 within)
      ∙ ap (λ x. byte_at (with_byte (address_from_right d.first n) b s) x) here
  turn false e f =
      let s : Storage = storage_before (move_of d m) m.core.storage n n
      in f n a
      ∙ sym (get_or-set_other s.bytes (address_from_right d.first n) a (made_byte (move_of d m) (storage_before (move_of d m) m.core.storage n) n) 0
      (λ k. eqb-false (address_from_right d.first n) a e (sym k)))

  by : (z : Bool) → ((k b : ℕ) → run (byte_before d n k b) m ≡ byte_at (storage_before (move_of d m) m.core.storage n k) b)
      → run (cond z (cond (nat_eq (address_from_right d.first n) a) (made_digit d (byte_before d n) n) (byte_before d n n a)) (byte_before d n i a)) m
      ≡ byte_at (cond z (storage_after (move_of d m) (storage_before (move_of d m) m.core.storage n) n) (storage_before (move_of d m) m.core.storage n i)) a
  by true f = turn (nat_eq (address_from_right d.first n) a) refl f
  by false f = f i a

last-before : (d : DigitMove) (s : Storage) (n : ℕ) → storage_before d s (suc n) (suc n) ≡ storage_after d (storage_before d s n) n
last-before d s n =
    ap (λ z. cond z (storage_after d (storage_before d s n) n) (storage_before d s n (suc n))) (lt-ltb n (suc n) (omega arith))

digits-stored : (d : DigitOperands) (n : ℕ) (m : Machine) → n ≤ d.first.count → d.first.address + d.first.count ≤ length m.core.storage.bytes
    → with_stores m m (digit_stores d n) ≡ record m { core = record m.core { storage = storage_before (move_of d m) m.core.storage n n } }
digits-stored d zero m l h = refl
digits-stored d (suc n) m l h =
    let before : ℕ → Storage = storage_before (move_of d m) m.core.storage n
    in let byte : run (made_digit d (byte_before d n) n) m ≡ made_byte (move_of d m) before n
    = made-is d (byte_before d n) before n m (λ k a. before-is d n k a m (omega (arith, l)) h)
    in stores-append m m (digit_stores d n) _
    ∙ ap (λ (x : Machine). record x {
      core
          = record x.core { storage = with_byte (address_from_right d.first n) (run (made_digit d (byte_before d n) n) m) x.core.storage };
    })
    (digits-stored d n m (omega (arith, l)) h)
    ∙ ap (λ b. record m { core = record m.core { storage = with_byte (address_from_right d.first n) b (before n) } }) byte
    ∙ ap (λ s. record m { core = record m.core { storage = s } }) (sym (last-before (move_of d m) m.core.storage n))

pub digits-are : (row : DigitRow) (first second : Field) (next : ℕ) (long : InstructionLength) (m : Machine)
    → happened (digits_row (profile_of m.core) row first second next) m ≡ with_outcome m (digits_outcome row (view_in m next long) first second)
digits-are row first second next long m =
    let d : DigitOperands = record { row = row; first = first; second = second }
    in let s : Storage = digits_stored (move_of d m) m.core.storage
    in conditioned-when (fields_read (profile_of m.core) Access.Store first second) (completed_row (digit_stores d first.count) next) m _
    (completed_with (view_in m next long) None s) (fields-are Access.Store first second next long m)
    (λ clear. stored-is (digit_stores d first.count) (done None) next long m s None
    (digits-stored d first.count m (omega arith) (first-inside m.core first.address first.count Access.Store (protection_key_of m.core.psw) _ clear)) refl)
