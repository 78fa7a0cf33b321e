-- What an expression reads of a target (gdb manual, "The GDB Agent Expression Mechanism", "Bytecode Descriptions", `reg`
-- and `ref8` to `ref64`).
use Rattle.std.specs.Prelude.{ℕ, ◌+◌, ◌^◌, nat_le, nat_lt, ◌&&◌, if◌then◌else◌, Ok, Err, List, length, slice_get, slice_range, ok_or}
use Rattle.s360_condition.specs.declared.fault.EvaluationFault.TheVariants.{NoSuchRegister, OutsideStorage}
use Rattle.s360_condition.specs.Reading.{big_endian}
use Rattle.s360_condition.specs.Values.{Evaluated}

-- the words of the registers, by their numbers in the target's description, and the bytes of storage
pub record Target : Type 0 where
  pub registers : List ℕ
  pub storage : List ℕ

-- the word of a register
abbrev pub register_value : Target → ℕ → Evaluated ℕ
register_value target number = ok_or (slice_get target.registers number) NoSuchRegister

-- the byte at an address, which has 32 bits
abbrev pub byte_value : Target → ℕ → Evaluated ℕ
byte_value target at = if nat_lt at (2 ^ 32) then ok_or (slice_get target.storage at) OutsideStorage else Err OutsideStorage

-- the number in so many bytes from an address on, the most significant first. All have to be in storage, and addresses
-- have 32 bits
abbrev pub fetched : Target → ℕ → ℕ → Evaluated ℕ
fetched target address count =
    if nat_le (address + count) (2 ^ 32) && nat_le (address + count) (length target.storage)
    then Ok (big_endian (slice_range target.storage address (address + count)))
    else Err OutsideStorage
