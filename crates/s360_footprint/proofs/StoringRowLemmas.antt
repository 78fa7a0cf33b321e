-- Rows that store registers and load several of them do what their definitions say.
use Rattle.std.proofs.Common.{ℕ, zero, suc, ◌+◌, ◌*◌, ◌%◌, ◌≡◌, ◌<◌, ◌≤◌, ◌++◌, ◌∙◌, List, [], ◌∷◌, refl, ap, sym, get_or, set, length, take}
use Rattle.std.proofs.Common.{drop, arith}
use Rattle.std.proofs.lemmas.List.{append_assoc, append-nil, drop-set-lt, drop_more, drop_all, length-set, take-append-drop, take_more_set}
use Rattle.std.specs.Int.{bytes_high_first}
use Rattle.s360_model.specs.{Core.Core, Core.core_with_bytes, Core.core_with_word, Storage.with_run}
use Rattle.s360_psw.specs.declared.instruction_length.InstructionLength.{InstructionLength}
use Rattle.s360_store.specs.declared.protection.Access.{Access}
use Rattle.s360_store.proofs.StoredRunLemmas.{length-with_run}
use Rattle.s360_fixed.specs.declared.{second_operand.Width.Width}
use Rattle.s360_fixed.specs.Operands.{access_conditions}
use Rattle.s360_fixed.specs.Outcomes.{unless_met}
use Rattle.s360_fixed.specs.Storing.{bytes_outcome, completed, load_multiple_outcome, register_count, store_multiple_outcome, store_outcome}
use Rattle.s360_fixed.specs.Storing.{with_registers_loaded, with_registers_stored}
use Rattle.s360_machine.specs.Machine.{Machine}
use Rattle.s360_footprint.specs.Altering.{completed_row, happened, view_in, with_outcome}
use Rattle.s360_footprint.specs.OperandReadings.{conditions_read, number_read, profile_of}
use Rattle.s360_footprint.specs.Readings.{Reading, bind, done, run}
use Rattle.s360_footprint.specs.Rows.{with_stores}
use Rattle.s360_footprint.specs.StoringRows.{byte_stores, bytes_row, load_multiple_row, loaded_registers, low_bytes_read, store_multiple_row, store_row}
use Rattle.s360_footprint.specs.StoringRows.{stored_registers}
use Rattle.s360_footprint.proofs.AlteringLemmas.{completed-is, conditioned-when}
use Rattle.s360_footprint.proofs.OperandLemmas.{conditions-are, conditions-inside, number-is}
use Rattle.s360_footprint.proofs.ReadingLemmas.{run-bind}
use Rattle.s360_footprint.proofs.SequenceLemmas.{stores-append}

-- no byte, and one byte and those after it
no-run : (xs : List ℕ) (a : ℕ) → with_run xs a [] ≡ xs
no-run xs a = let here : a + 0 ≡ a = omega arith in rw (append-nil, here) (take-append-drop a xs)

one-more : (xs ys : List ℕ) (a b : ℕ) → a < length xs → with_run (set xs a b) (a + 1) ys ≡ with_run xs a (b ∷ ys)
one-more xs ys a b l =
    let rest : drop (a + 1 + length ys) (set xs a b) ≡ drop (a + 1 + length ys) xs = drop-set-lt (a + 1 + length ys) xs a b (omega arith)
    in let there : a + 1 + length ys ≡ a + suc (length ys) = omega arith
    in ap (λ f. f ++ ys ++ drop (a + 1 + length ys) (set xs a b)) (take_more_set xs a b l)
    ∙ ap (λ r. take a xs ++ (b ∷ []) ++ ys ++ r) rest
    ∙ ap (λ f. f ++ drop (a + 1 + length ys) xs) (append_assoc (take a xs) (b ∷ []) ys)
    ∙ ap (λ n. take a xs ++ (b ∷ ys) ++ drop n xs) there

abbrev bytes_of : Machine → List ℕ
bytes_of m = m.core.storage.bytes

abbrev with_bytes : Machine → List ℕ → Machine
with_bytes m xs = record m { core = record m.core { storage = record m.core.storage { bytes = xs } } }

pub bytes-stored : (bytes : Reading (List ℕ)) (l : List ℕ) (before m : Machine) (address i n : ℕ) → run bytes before ≡ l → i + n ≡ length l
    → address + length l ≤ length (bytes_of m)
    → with_stores before m (byte_stores address bytes i n) ≡ record m { core = core_with_bytes (address + i) (drop i l) m.core }
bytes-stored bytes l before m address i zero e c h =
    let none : drop i l ≡ [] = drop_all i l (omega (arith, c))
    in sym (ap (with_bytes m) (ap (with_run (bytes_of m) (address + i)) none ∙ no-run (bytes_of m) (address + i)))
bytes-stored bytes l before m address i (suc n) e c h =
    let b : ℕ = get_or l i 0
    in let v : run (bind bytes (λ bs. done (get_or bs i 0))) before ≡ b = run-bind bytes (λ bs. done (get_or bs i 0)) before ∙ ap (λ bs. get_or bs i 0) e
    in let next : Machine = with_bytes m (set (bytes_of m) (address + i) b)
    in let size : length (set (bytes_of m) (address + i) b) ≡ length (bytes_of m) = length-set (bytes_of m) (address + i) b
    in let there : address + (i + 1) ≡ address + i + 1 = omega arith
    in ap (λ w. with_stores before (with_bytes m (set (bytes_of m) (address + i) w)) (byte_stores address bytes (i + 1) n)) v
    ∙ bytes-stored bytes l before next address (i + 1) n e (omega (arith, c)) (omega (arith, h, size))
    ∙ ap (with_bytes m)
    (ap (λ a. with_run (set (bytes_of m) (address + i) b) a (drop (i + 1) l)) there
    ∙ one-more (bytes_of m) (drop (i + 1) l) (address + i) b (omega (arith, h, c))
    ∙ ap (with_run (bytes_of m) (address + i)) (sym (drop_more l i 0 (omega (arith, c)))))

-- all of them
pub all-stored : (bytes : Reading (List ℕ)) (l : List ℕ) (before m : Machine) (address n : ℕ) → run bytes before ≡ l → n ≡ length l
    → address + length l ≤ length (bytes_of m)
    → with_stores before m (byte_stores address bytes 0 n) ≡ record m { core = core_with_bytes address l m.core }
all-stored bytes l before m address n e c h =
    let here : address + 0 ≡ address = omega arith
    in bytes-stored bytes l before m address 0 n e (omega (arith, c)) h ∙ ap (λ a. record m { core = core_with_bytes a l m.core }) here

pub bytes-row-is : (bytes : Reading (List ℕ)) (count address next : ℕ) (long : InstructionLength) (m : Machine) → count ≡ length (run bytes m)
    → happened (bytes_row (profile_of m.core) bytes count address next) m ≡ with_outcome m (bytes_outcome (run bytes m) (view_in m next long) address)
bytes-row-is bytes count address next long m c =
    let l : List ℕ = run bytes m
    in conditioned-when (conditions_read (profile_of m.core) address count count Access.Store) (completed_row (byte_stores address bytes 0 count) next) m
    (access_conditions m.core address count count Access.Store) (completed (view_in m next long) (core_with_bytes address l m.core))
    (conditions-are address count count Access.Store m)
    (λ clear. completed-is (byte_stores address bytes 0 count) next m (core_with_bytes address l m.core)
    (all-stored bytes l m m address count refl c (omega (arith, c, conditions-inside m.core address count count Access.Store clear))))
    ∙ ap (λ n. with_outcome m
    (unless_met (access_conditions m.core address n n Access.Store) m.core (completed (view_in m next long) (core_with_bytes address l m.core)))) c

pub store-is : (width : Width) (r1 address next : ℕ) (long : InstructionLength) (m : Machine)
    → happened (store_row (profile_of m.core) width r1 address next) m ≡ with_outcome m (store_outcome width (view_in m next long) r1 address)
store-is Width.Byte r1 address next long m = bytes-row-is (low_bytes_read 1 r1) 1 address next long m refl
store-is Width.Halfword r1 address next long m = bytes-row-is (low_bytes_read 2 r1) 2 address next long m refl
store-is Width.Word r1 address next long m = bytes-row-is (low_bytes_read 4 r1) 4 address next long m refl

-- several registers that are stored
stored-size : (registers : List ℕ) (r1 address n : ℕ) (m : Core) → address + 4 * n ≤ length m.storage.bytes
    → length (with_registers_stored registers r1 address n m).storage.bytes ≡ length m.storage.bytes
stored-size registers r1 address zero m h = refl
stored-size registers r1 address (suc n) m h =
    let before : length (with_registers_stored registers r1 address n m).storage.bytes ≡ length m.storage.bytes
    = stored-size registers r1 address n m (omega (arith, h))
    in length-with_run (with_registers_stored registers r1 address n m).storage.bytes (bytes_high_first 4 (get_or registers ((r1 + n) % 16) 0))
    (address + 4 * n) (omega (arith, h, before))
    ∙ before

registers-stored : (r1 address n : ℕ) (m : Machine) → address + 4 * n ≤ length (bytes_of m)
    → with_stores m m (stored_registers r1 address n) ≡ record m { core = with_registers_stored m.core.registers r1 address n m.core }
registers-stored r1 address zero m h = refl
registers-stored r1 address (suc n) m h =
    let core : Core = with_registers_stored m.core.registers r1 address n m.core
    in let word : List ℕ = bytes_high_first 4 (get_or m.core.registers ((r1 + n) % 16) 0)
    in let size : length core.storage.bytes ≡ length (bytes_of m) = stored-size m.core.registers r1 address n m.core (omega (arith, h))
    in stores-append m m (stored_registers r1 address n) (byte_stores (address + 4 * n) (low_bytes_read 4 ((r1 + n) % 16)) 0 4)
    ∙ ap (λ x. with_stores m x (byte_stores (address + 4 * n) (low_bytes_read 4 ((r1 + n) % 16)) 0 4)) (registers-stored r1 address n m (omega (arith, h)))
    ∙ all-stored (low_bytes_read 4 ((r1 + n) % 16)) word m (record m { core = core }) (address + 4 * n) 4 refl refl (omega (arith, h, size))

pub store-multiple-is : (r1 r3 address next : ℕ) (long : InstructionLength) (m : Machine)
    → happened (store_multiple_row (profile_of m.core) r1 r3 address next) m ≡ with_outcome m (store_multiple_outcome (view_in m next long) r1 r3 address)
store-multiple-is r1 r3 address next long m =
    let count : ℕ = register_count r1 r3
    in let core : Core = with_registers_stored m.core.registers r1 address count m.core
    in conditioned-when (conditions_read (profile_of m.core) address 4 (4 * count) Access.Store) (completed_row (stored_registers r1 address count) next) m
    (access_conditions m.core address 4 (4 * count) Access.Store) (completed (view_in m next long) core) (conditions-are address 4 (4 * count) Access.Store m)
    (λ clear. completed-is (stored_registers r1 address count) next m core
    (registers-stored r1 address count m (conditions-inside m.core address 4 (4 * count) Access.Store clear)))

-- several registers that are loaded
registers-loaded : (r1 address n : ℕ) (m : Machine)
    → with_stores m m (loaded_registers r1 address n) ≡ record m { core = with_registers_loaded (bytes_of m) r1 address n m.core }
registers-loaded r1 address zero m = refl
registers-loaded r1 address (suc n) m =
    stores-append m m (loaded_registers r1 address n) _
    ∙ ap (λ (x : Machine). record x { core = core_with_word ((r1 + n) % 16) (run (number_read (address + 4 * n) 4) m) x.core })
    (registers-loaded r1 address n m)
    ∙ ap (λ w. record m { core = core_with_word ((r1 + n) % 16) w (with_registers_loaded (bytes_of m) r1 address n m.core) }) (number-is (address + 4 * n) 4 m)

pub load-multiple-is : (r1 r3 address next : ℕ) (long : InstructionLength) (m : Machine)
    → happened (load_multiple_row (profile_of m.core) r1 r3 address next) m ≡ with_outcome m (load_multiple_outcome (view_in m next long) r1 r3 address)
load-multiple-is r1 r3 address next long m =
    let count : ℕ = register_count r1 r3
    in let core : Core = with_registers_loaded (bytes_of m) r1 address count m.core
    in conditioned-when (conditions_read (profile_of m.core) address 4 (4 * count) Access.Fetch) (completed_row (loaded_registers r1 address count) next) m
    (access_conditions m.core address 4 (4 * count) Access.Fetch) (completed (view_in m next long) core) (conditions-are address 4 (4 * count) Access.Fetch m)
    (λ clear. completed-is (loaded_registers r1 address count) next m core (registers-loaded r1 address count m))
