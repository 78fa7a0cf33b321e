-- Bytes in two digits each: when a text has them, and that they are read as they were written.
use Rattle.std.proofs.Common.{◌≡◌, ◌<◌, ◌*◌, ◌/◌, ◌%◌, ◌&&◌, ℕ, zero, suc, List, [], ◌∷◌, Bool, true, length, slice_index, nat_eq, Result, Ok, Err, inl, inr, refl, arith, ok_or}
use Rattle.std.proofs.lemmas.Bool.{and_parts, cases_lt, eqb-true}
use Rattle.std.specs.Char.{digit_char}
use Rattle.std.specs.List.{AllPass}
use Rattle.std.specs.Result.{result_ok}
use Rattle.hex.specs.Hex.{IsBytes, decode_of, is_hex_digit, encode_with, encode_lower, lower_digits}
use Rattle.hex.specs.declared.error.FromHexError.{FromHexError}
use Rattle.hex.proofs.HexLemmas.{decode_of-odd, decode_of-ok, decode_of-digits, decode_of-encode_lower, length-encode_with}
use Rattle.s360_packet.specs.Hexadecimal.{bytes_text}
use Rattle.s360_packet.specs.Requests.{bytes_in, ReadsBytes}
use Rattle.s360_packet.specs.declared.request.RequestFault.TheVariants.{Malformed, Memory}

pub odd_bytes : (text : List ℕ) → length text % 2 ≡ 1 → ReadsBytes (bytes_in text) (Err Malformed)
odd_bytes text odd = rw (decode_of-odd text odd) refl

pub no_bytes : (text : List ℕ) → (AllPass is_hex_digit text → ⊥) → ReadsBytes (bytes_in text) (Err Malformed)
no_bytes text none =
    let by : (r : Result (List ℕ) FromHexError) → decode_of text ≡ r → ReadsBytes (ok_or (result_ok r) Malformed) (Err Malformed)
    = λ r. elim r as (λ x. decode_of text ≡ x → ReadsBytes (ok_or (result_ok x) Malformed) (Err Malformed)) [
      | Ok bytes ↦ λ e. absurd (none (decode_of-ok text bytes e).1)
      | Err fault ↦ λ e. refl
    ]
    in by (decode_of text) refl

pub want_of_memory : (text : List ℕ) → length text % 2 ≡ 0 → AllPass is_hex_digit text → ReadsBytes (bytes_in text) (Err Memory)
want_of_memory text even all =
    let found = decode_of-digits text even all
    in rw found.1 (inr refl)

-- each digit is that of the table
abbrev same_digit : ℕ → Bool
same_digit d = nat_eq (digit_char d) (slice_index lower_digits d)

abbrev same_digits : ℕ → Bool
same_digits zero = true
same_digits (suc n) = same_digit n && same_digits n

same_digits-at : (n d : ℕ) → same_digits n ≡ true → d < n → same_digit d ≡ true
same_digits-at zero d h low = absurd (omega arith)
same_digits-at (suc n) d h low =
    let parts = and_parts (same_digit n) (same_digits n) h
    in elim (cases_lt d n) [
      | inl below ↦ same_digits-at n d parts.1 below
      | inr top ↦ let e : d ≡ n = omega arith in rw e parts.0
    ]

digit_of_table : (d : ℕ) → d < 16 → digit_char d ≡ slice_index lower_digits d
digit_of_table d low = eqb-true (digit_char d) (slice_index lower_digits d) (same_digits-at 16 d refl low)

bytes_text-encode : (bytes : List ℕ) → IsBytes bytes → bytes_text bytes ≡ encode_lower bytes
unfolding encode_with
bytes_text-encode [] are = refl
bytes_text-encode (b ∷ bytes) are =
    let low : b < 256 = are 0
    in let rest = bytes_text-encode bytes (λ i. are (suc i))
    in rw (digit_of_table (b / 16) (omega arith), digit_of_table (b % 16) (omega arith), rest) refl

pub bytes_read : (bytes : List ℕ) → IsBytes bytes → bytes_in (bytes_text bytes) ≡ Ok bytes
bytes_read bytes are = rw (bytes_text-encode bytes are, decode_of-encode_lower bytes are) refl

pub length-bytes_text : (bytes : List ℕ) → IsBytes bytes → length (bytes_text bytes) ≡ 2 * length bytes
length-bytes_text bytes are = rw (bytes_text-encode bytes are) (length-encode_with lower_digits bytes)
