-- What is found of a row, by what is asked of it (ours).
use Rattle.std.specs.Prelude.{ℕ, zero, suc, ◌+◌, ◌-◌, Bool, true, false, not, ◌&&◌, nat_eq, nat_le, nat_lt, if◌then◌else◌, List, [], ◌∷◌, ◌++◌, length}
use Rattle.s360_model.specs.{Core.Core, Psw.fixed_point_overflow_mask_of, Psw.protection_key_of}
use Rattle.s360_store.specs.declared.place.Place.{Place}
use Rattle.s360_store.specs.declared.place.Place.TheVariants.{Psw, Register, Byte, Key}
use Rattle.s360_store.specs.declared.protection.Access.{Access}
use Rattle.s360_store.specs.Places.{same_place}
use Rattle.s360_fixed.specs.declared.row.{Branch.Branch, Combination.Combination}
use Rattle.s360_logic.specs.declared.row.{ByteCombination.ByteCombination, KeyRow.KeyRow}
use Rattle.s360_machine.specs.Machine.{Machine}
use Rattle.s360_footprint.specs.LeftToRightRows.{sets_code}
use Rattle.s360_footprint.specs.OperandReadings.{guards, profile_of}
use Rattle.s360_footprint.specs.Readings.{places_read, run}
use Rattle.s360_footprint.specs.RegisterRows.{compares, keeps_code, may_overflow, uses_first}
use Rattle.s360_footprint.specs.Rows.{Row, Store}
use Rattle.s360_source.specs.declared.question.Question.{Question}

-- places that are read to know what the event does are added to the deciders
abbrev pub with_decided : Question → List Place → List Place → List Place
with_decided Question.Deciders ps found = found ++ ps
with_decided other ps found = found

-- it asks what stands at a place is made of
abbrev pub is_of : Question → Place → Bool
is_of (Question.Sources p) q = same_place q p
is_of question q = false

-- a store adds its place to those that are stored; and its value's places become the sources of its place
abbrev pub with_store : Question → Place → List Place → List Place → List Place
with_store Question.Deciders q ps found = found
with_store Question.Stored q ps found = found ++ q ∷ []
with_store (Question.Sources p) q ps found = if same_place q p then ps else found

abbrev pub with_stores_of : Question → Machine → List Store → List Place → List Place
with_stores_of question m [] found = found
with_stores_of question m (s ∷ ss) found = with_stores_of question m ss (with_store question s.place (places_read s.value m) found)

-- the sources of a place by stores
abbrev pub sources_by : Machine → List Store → Place → List Place
sources_by m stores p = with_stores_of (Question.Sources p) m stores (p ∷ [])

-- what is found of a row, beside what was found before
abbrev pub walked : {Ending : Type 0} → Question → Row Ending → Machine → List Place → List Place
walked question row m found = with_stores_of question m (run row m).stores (with_decided question (places_read row m) found)

-- stores of one kind: into each of some places, and into so many bytes
abbrev pub with_each : Question → List Place → List Place → List Place → List Place
with_each question [] ps found = found
with_each question (q ∷ qs) ps found = with_each question qs ps (with_store question q ps found)

abbrev pub with_bytes : Question → ℕ → ℕ → List Place → List Place → List Place
with_bytes question address zero ps found = found
with_bytes question address (suc n) ps found = with_store question (Byte (address + n)) ps (with_bytes question address n ps found)

-- a place is one of so many bytes from an address on
abbrev pub is_one_of : Place → ℕ → ℕ → Bool
is_one_of (Byte at) address count = nat_le address at && nat_lt (at - address) count
is_one_of place address count = false

-- an instruction that alters registers, the condition code and the address, by the places that those are made of
abbrev pub altered_walk : Question → ℕ → List Place → List Place → List Place → List Place → List Place → List Place
altered_walk question psw overflow registers words code found =
    with_store question Psw (Psw ∷ code)
    (with_each question registers words
    (with_decided question (if fixed_point_overflow_mask_of psw then overflow else []) (with_decided question (Psw ∷ []) found)))

-- one that computes registers, and it may be an overflow and the condition code, of the same words
abbrev pub computed_walk : Question → ℕ → Bool → Bool → List Place → List Place → List Place → List Place
computed_walk question psw overflows sets registers words found =
    altered_walk question psw (if overflows then words else []) registers words (if sets then words else []) found

-- R1 combined with a second operand that is made of these
abbrev pub places_used : Combination → ℕ → List Place → List Place
places_used c r1 second = if uses_first c then Register r1 ∷ second else second

abbrev pub combination_walk : Question → ℕ → Combination → ℕ → List Place → List Place → List Place
combination_walk question psw c r1 second found =
    computed_walk question psw (may_overflow c) (not (keeps_code c)) (if compares c then [] else Register r1 ∷ []) (places_used c r1 second) found

-- a pair of registers that is made of these
abbrev pub pair_walk : Question → ℕ → ℕ → List Place → List Place → List Place
pair_walk question psw r1 words found = computed_walk question psw false false (Register r1 ∷ (Register (r1 + 1) ∷ [])) words found

-- a branch to an address that is made of these
abbrev pub branch_walk : Question → ℕ → Branch → ℕ → List Place → List Place → List Place
branch_walk question psw Branch.OnCondition r1 target found = altered_walk question psw [] [] [] (target ++ Psw ∷ []) found
branch_walk question psw Branch.AndLink r1 target found = altered_walk question psw [] (Register r1 ∷ []) (Psw ∷ []) target found
branch_walk question psw Branch.OnCount r1 target found =
    altered_walk question psw [] (Register r1 ∷ []) (Register r1 ∷ []) (target ++ Register r1 ∷ []) found

-- so many bytes stored, made of these
abbrev pub store_walk : Question → ℕ → ℕ → List Place → List Place → List Place
store_walk question address count ps found = with_store question Psw (Psw ∷ []) (with_bytes question address count ps found)

-- a byte in storage that becomes something of it and the byte of the instruction
abbrev pub byte_unless : Bool → ℕ → List Place
byte_unless left address = if left then [] else Byte address ∷ []

abbrev pub is_moved : ByteCombination → Bool
is_moved ByteCombination.Second = true
is_moved c = false

abbrev pub combined_walk : Question → ByteCombination → ℕ → List Place → List Place
combined_walk question c address found =
    with_store question Psw (Psw ∷ byte_unless (not (sets_code c)) address)
    (with_store question (Byte address) (byte_unless (is_moved c) address) found)

-- a storage key that is set or inserted
abbrev pub key_walk : Question → KeyRow → ℕ → ℕ → List Place → List Place
key_walk question KeyRow.Set r1 block found =
    with_store question Psw (Psw ∷ []) (with_store question (Key block) (Register r1 ∷ []) found)
key_walk question KeyRow.Insert r1 block found =
    with_store question Psw (Psw ∷ []) (with_store question (Register r1) (Register r1 ∷ (Key block ∷ [])) found)

-- the registers that a search stores if it finds a byte, made of themselves and of what it reads
abbrev pub found_walk : Question → Bool → List Place → List Place → List Place
found_walk question is_found ps found =
    if is_found
    then with_store question (Register 2) (Register 2 ∷ ps) (with_store question (Register 1) (Register 1 ∷ ps) found)
    else found

-- an access to so many bytes looks at their keys inside storage alone, where it is protected and the key is not zero
abbrev pub looks_at_keys : Core → ℕ → ℕ → Access → Bool
looks_at_keys m address count kind =
    nat_le (address + count) (length m.storage.bytes) && (guards (profile_of m) kind && not (nat_eq (protection_key_of m.psw) 0))
