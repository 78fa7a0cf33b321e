use Rattle.std.proofs.Common.{◌≡◌, ◌<◌, ◌^◌, drop}
use Rattle.std.specs.List.{list_all}
use Rattle.std.specs.Char.{is_digit}
use Rattle.std.specs.Str.Parse.{digits_value, digits_value_after}
use Rattle.s360_text.proofs.digits.number_in.Given as goal

abbrev pub invariant-loop-byte : goal.invariant-loop-byte
invariant-loop-byte l = record {
  left : digits_value_after l.radix l.number (drop l.byte-index l.word) ≡ digits_value l.radix l.word;
  digits : list_all (λ c. is_digit c l.radix) (drop l.byte-index l.word) ≡ list_all (λ c. is_digit c l.radix) l.word;
  below : l.number < l.radix ^ l.byte-index;
}
