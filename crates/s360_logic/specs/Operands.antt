-- What the code has of an instruction so far (kept): storage of which the bytes of the first operand are others.
use Rattle.std.specs.Prelude.{ℕ, List, ◌+◌, ◌-◌, ◌*◌, ◌/◌, ◌%◌, nat_eq, if◌then◌else◌}
use Rattle.s360_model.specs.Storage.{Storage, with_run}
use Rattle.s360_logic.specs.declared.{field.Field.Field, right_to_left.NextByte.NextByte, row.DigitRow.DigitRow}
use Rattle.s360_logic.specs.RightToLeft.{byte_from_right, digits, exchanged}

pub record FirstOperand : Type 0 where
  pub storage : Storage
  pub address : ℕ
  pub bytes : List ℕ

-- the storage with them
abbrev pub stored_in : FirstOperand → Storage
stored_in o = record o.storage { bytes = with_run o.storage.bytes o.address o.bytes }

-- the byte of the result at i from the right, which `made_byte` says, made of storage as it is and of one byte held; and what is held for the next byte
abbrev pub next_byte : DigitRow → ℕ → Field → ℕ → ℕ → Storage → NextByte
next_byte DigitRow.MoveWithOffset zone second i held s =
    let fetched = byte_from_right second s i
    in record { byte = digits fetched (held / 16); held = fetched }
next_byte DigitRow.Pack zone second i held s =
    if nat_eq i 0
    then record { byte = exchanged (byte_from_right second s 0); held = held }
    else record { byte = digits (byte_from_right second s (2 * i)) (byte_from_right second s (2 * i - 1)); held = held }
next_byte DigitRow.Unpack zone second i held s =
    if nat_eq i 0
    then record { byte = exchanged (byte_from_right second s 0); held = held }
    else if nat_eq (i % 2) 1
    then (let fetched = byte_from_right second s ((i + 1) / 2) in record { byte = digits zone fetched; held = fetched })
    else record { byte = digits zone (held / 16); held = held }
