-- Conversions between a word in a register and a packed decimal number, which is a doubleword in storage (GA22-6821, "Fixed-Point Arithmetic", CONVERT TO
-- BINARY and CONVERT TO DECIMAL).
use Rattle.std.specs.Prelude.{ℕ, if◌then◌else◌, ℤ, Option, Some, None}
use Rattle.std.specs.Int.{bytes_high_first}
use Rattle.s360_model.specs.{Arithmetic.word_of, Packed.packed, Packed.packed_value, Psw.ascii_mode_of, Storage.doubleword_at}
use Rattle.s360_model.specs.Numbers.{fits_word, signed}
use Rattle.s360_store.specs.declared.protection.Access.TheVariants.{Fetch}
use Rattle.s360_fixed.specs.{declared.ended.Ended.Ended, Outcomes.unless_met, Storing.bytes_outcome, View.Outcome, View.View, View.register_of}
use Rattle.s360_fixed.specs.declared.program_code.ProgramCode.TheVariants.{Data, FixedPointDivide}
use Rattle.s360_fixed.specs.{Operands.access_conditions, Alterations.core_with_alteration, Alterations.one_register, Alterations.unchanged}
use Rattle.s360_logic.specs.declared.row.Conversion.{Conversion}

-- R1 becomes the word of a number. One that does not fit interrupts with code 9, after R1 has its low 32 bits; a digit or sign that is none with code 7
abbrev pub converted_outcome : Option ℤ → View → ℕ → Outcome
converted_outcome None v r1 = record { ended = Ended.Program Data; core = v.core }
converted_outcome (Some n) v r1 = record {
  ended = if fits_word n then Ended.Done else Ended.Program FixedPointDivide;
  core = core_with_alteration (one_register r1 (word_of n) unchanged v.next_address) v.core;
}

abbrev pub conversion_outcome : Conversion → View → ℕ → ℕ → Outcome
conversion_outcome Conversion.ToBinary v r1 address =
    unless_met (access_conditions v.core address 8 8 Fetch) v.core
    (converted_outcome (packed_value (doubleword_at v.core.storage.bytes address)) v r1)
conversion_outcome Conversion.ToDecimal v r1 address =
    bytes_outcome (bytes_high_first 8 (packed (ascii_mode_of v.core.psw) (signed (register_of v r1)))) v address
