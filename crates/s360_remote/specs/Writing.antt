-- What gdb writes into the machine: patches, each an event of its own, which stands and can be taken back (gdb manual,
-- "Packets", `M`, `X`, `P` and `G`).
use Rattle.std.specs.Prelude.{◌≡◌, ⊤, ℕ, zero, suc, ◌+◌, ◌-◌, ◌/◌, ◌||◌, Bool, not, nat_eq, nat_lt, if◌then◌else◌}
use Rattle.std.specs.Prelude.{List, [], ◌∷◌, ◌++◌, length, take, drop, slice_index, Result, Ok, Err}
use Rattle.std.specs.List.{flat_map, range_with_len}
use Rattle.s360_machine.specs.Machine.{storage_size}
use Rattle.s360_machine.specs.declared.event.Event.TheVariants.{Patch as patch}
use Rattle.s360_machine.specs.declared.event.Patch.{Patch}
use Rattle.s360_machine.specs.declared.event.Patch.TheVariants.{Bytes, Register}
use Rattle.s360_journal.specs.Standing.{machine_of}
use Rattle.s360_journal.specs.Recorded.{after_event, session_of}
use Rattle.s360_remote.specs.Driven.{Driven, fresh}
use Rattle.s360_remote.specs.Registers.{patch_of_psw, patch_of_word, words_of_machine}
use Rattle.s360_remote.specs.declared.error_number.ErrorNumber.{ErrorNumber}
use Rattle.s360_remote.specs.declared.error_number.ErrorNumber.TheVariants.{Memory, Address, Malformed, Full}

-- a patch was made
abbrev pub after_patch : Driven → Patch → Driven
after_patch d p = record d { recorded = after_event d.recorded (patch p) }

-- patches are made one after another, and lead from one target to another
abbrev pub AreMade : Driven → List Patch → Driven → Type 0
AreMade d [] t = t ≡ d
AreMade d (p ∷ ps) t = AreMade (after_patch d p) ps t

-- some first ones of them are
abbrev pub AreBegun : Driven → List Patch → Driven → Type 0
AreBegun d ps t = (n : ℕ) × AreMade d (take n ps) t

-- a write is the patches that it makes, or why it makes none
abbrev pub Write : Type 0
Write = Result (List Patch) ErrorNumber

-- where the record has room for so many events more
abbrev pub with_room : Driven → ℕ → List Patch → Write
with_room d count ps = if nat_lt d.recorded.limit (d.recorded.standing + count) then Err Full else Ok ps

-- a patch has at most 256 bytes
abbrev pub most_patched : ℕ
most_patched = 256

abbrev pub patch_count : ℕ → ℕ
patch_count n = (n + 255) / 256

-- so many patches of bytes from an address on
abbrev pub patches_from : ℕ → ℕ → List ℕ → List Patch
patches_from zero at bytes = []
patches_from (suc n) at bytes =
    Bytes at (take most_patched bytes) ∷ patches_from n (at + length (take most_patched bytes)) (drop most_patched bytes)

abbrev pub patches_of_bytes : ℕ → List ℕ → List Patch
patches_of_bytes at bytes = patches_from (patch_count (length bytes)) at bytes

-- `M` and `X`: all bytes have to be in storage
abbrev pub storage_write : Driven → ℕ → List ℕ → Write
storage_write d at bytes =
    if nat_lt (storage_size (machine_of (session_of d.recorded))) (at + length bytes) then Err Address
    else with_room d (patch_count (length bytes)) (patches_of_bytes at bytes)

-- `P`: the machine has 18 registers of those that gdb knows
abbrev pub register_write : Driven → ℕ → ℕ → Write
register_write d number word =
    if nat_lt number 18 then with_room d 1 (patch_of_word (machine_of (session_of d.recorded)) number word ∷ []) else Err Malformed

-- what gives the PSW and the registers other words: one patch for both words of the PSW, and one for each register
abbrev pub is_other : List ℕ → List ℕ → ℕ → Bool
is_other before words n = not (nat_eq (slice_index before n) (slice_index words n))

abbrev pub psw_patches : List ℕ → List ℕ → List Patch
psw_patches before words =
    if is_other before words 0 || is_other before words 1 then patch_of_psw (slice_index words 0) (slice_index words 1) ∷ [] else []

abbrev pub register_patches : List ℕ → List ℕ → ℕ → List Patch
register_patches before words r =
    if is_other before words (r + 2) then Register r (slice_index words (r + 2)) ∷ [] else []

-- those of the general registers from one on
abbrev pub patches_from_register : List ℕ → List ℕ → ℕ → List Patch
patches_from_register before words register = flat_map (λ r. register_patches before words r) (range_with_len register (16 - register))

abbrev pub patches_of_words : List ℕ → List ℕ → List Patch
patches_of_words before words = psw_patches before words ++ patches_from_register before words 0

-- `G`: the record has to have room for all of them
abbrev pub registers_write : Driven → List ℕ → Write
registers_write d words = with_room d 18 (patches_of_words (words_of_machine (machine_of (session_of d.recorded))) words)

-- how a write that makes these patches ends: after want of memory some first ones are made
abbrev pub IsMadeOrBegun : Driven → List Patch → Driven → Result ⊤ ErrorNumber → Type 0
IsMadeOrBegun d ps t (Ok done) = AreMade d ps t
IsMadeOrBegun d ps t (Err fault) = (fault ≡ Memory) × AreBegun d ps t

-- how a write ends
abbrev pub IsWriteEnd : Write → Driven → Driven → Result ⊤ ErrorNumber → Type 0
IsWriteEnd (Err fault) d t result = (t ≡ d) × (result ≡ Err fault)
IsWriteEnd (Ok ps) d t result = IsMadeOrBegun (fresh d) ps t result
