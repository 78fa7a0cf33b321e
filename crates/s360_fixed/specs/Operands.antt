-- The addresses of operands, their conditions and their values (GA22-6821, "System Structure", information positioning and address generation).
use Rattle.std.specs.Prelude.{ℕ, ◌+◌, ◌%◌, ◌^◌, Bool, true, false, not, nat_eq, nat_lt, if◌then◌else◌, slice_index, List}
use Rattle.s360_model.specs.{Core.Core, Psw.protection_key_of, Storage.halfword_at, Storage.word_at}
use Rattle.s360_store.specs.{declared.protection.Access.Access, declared.protection.Checked.Checked, Protection.access}
use Rattle.s360_fixed.specs.declared.second_operand.{SecondOperand.SecondOperand, Width.Width}
use Rattle.s360_fixed.specs.ProgramCodes.{Conditions, no_conditions}

-- what a base or an index register adds: nothing where it is register 0
abbrev pub address_part : List ℕ → ℕ → ℕ
address_part registers r = if nat_eq r 0 then 0 else slice_index registers r

-- base plus index plus displacement, modulo 2^24
abbrev pub operand_address : List ℕ → ℕ → ℕ → ℕ → ℕ
operand_address registers index base displacement = (address_part registers index + address_part registers base + displacement) % 2 ^ 24

abbrev pub is_outside : Checked → Bool
is_outside Checked.Addressing = true
is_outside c = false

abbrev pub is_guarded : Checked → Bool
is_guarded Checked.Protection = true
is_guarded c = false

-- the conditions of what an access meets
abbrev pub conditions_of : Checked → Conditions
conditions_of met = record no_conditions { addressing = is_outside met; protection = is_guarded met }

-- the conditions of an access to so many bytes of storage, which lie on a boundary
abbrev pub access_conditions : Core → ℕ → ℕ → ℕ → Access → Conditions
access_conditions m address boundary count kind =
    let met = access m.storage address count kind (protection_key_of m.psw)
    in record (conditions_of met) { specification = not (nat_eq (address % boundary) 0) }

-- an operand: what keeps it from being used, and its value
pub record Operand : Type 0 where
  pub conditions : Conditions
  pub value : ℕ

-- a halfword extended by its sign to a word
abbrev pub extended_halfword : ℕ → ℕ
extended_halfword half = if nat_lt half 0x8000 then half else half + 0xFFFF_0000

-- a second operand that can be used, as one in a register
abbrev pub word_operand : ℕ → Operand
word_operand word = record { conditions = no_conditions; value = word }

-- the bytes of an operand in storage
abbrev pub bytes_of_width : Width → ℕ
bytes_of_width Width.Byte = 1
bytes_of_width Width.Halfword = 2
bytes_of_width Width.Word = 4

-- the word that they are
abbrev pub word_in : Width → List ℕ → ℕ → ℕ
word_in Width.Byte bytes address = slice_index bytes address
word_in Width.Halfword bytes address = extended_halfword (halfword_at bytes address)
word_in Width.Word bytes address = word_at bytes address

-- a second operand in storage, on the boundary of its width, or an address
abbrev pub storage_operand : Core → SecondOperand → ℕ → Operand
storage_operand m (SecondOperand.InStorage width) address = record {
  conditions = access_conditions m address (bytes_of_width width) (bytes_of_width width) Access.Fetch;
  value = word_in width m.storage.bytes address;
}
storage_operand m SecondOperand.Address address = word_operand address
