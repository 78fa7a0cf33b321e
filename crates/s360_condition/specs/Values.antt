-- The values of an expression, of 64 bits each, and what instructions make of them (gdb manual, "The GDB Agent Expression
-- Mechanism", "Bytecode Descriptions"). What has no place in 64 bits is cut off on the left. A signed number is in two's
-- complement. A shift by 64 bits or more, the one quotient that is too large, and a sign from 0 bits, of which the manual
-- says nothing, fail (own profile).
use Rattle.std.specs.Prelude.{ℕ, ◌+◌, ◌-◌, ◌*◌, ◌/◌, ◌%◌, ◌^◌, nat_eq, nat_lt, Bool, not, ◌&&◌, if◌then◌else◌, bit_and, bit_or, bit_xor}
use Rattle.std.specs.Prelude.{ℤ, pos, negsuc, int_lt, int_div, int_rem, Result, Ok, Err}
use Rattle.std.specs.Int.{w64, cast_signed, cast_unsigned, int_div_euclid}
use Rattle.s360_condition.specs.declared.fault.EvaluationFault.{EvaluationFault}
use Rattle.s360_condition.specs.declared.fault.EvaluationFault.TheVariants.{DivisionByZero, QuotientTooLarge, ShiftTooFar, NoSignBit}
use Rattle.s360_condition.specs.declared.instruction.Binary.{Binary}
use Rattle.s360_condition.specs.declared.instruction.Binary.TheVariants.{Add, Sub, Mul, DivSigned, DivUnsigned, RemSigned, RemUnsigned, Lsh, RshSigned}
use Rattle.s360_condition.specs.declared.instruction.Binary.TheVariants.{RshUnsigned, BitAnd, BitOr, BitXor, Equal, LessSigned, LessUnsigned}
use Rattle.s360_condition.specs.declared.instruction.Unary.{Unary}
use Rattle.s360_condition.specs.declared.instruction.Unary.TheVariants.{LogNot, BitNot, Ext, ZeroExt}

-- what an instruction leaves, or why it fails
abbrev pub Evaluated : Type 0 → Type 0
Evaluated V = Result V EvaluationFault

-- the signed number that a value stands for, and the value of a signed number
abbrev pub signed : ℕ → ℤ
signed value = cast_signed w64 value

abbrev pub unsigned : ℤ → ℕ
unsigned number = cast_unsigned w64 number

-- 1 for what is so, else 0
abbrev pub truth : Bool → ℕ
truth is = if is then 1 else 0

-- a shift is by less than 64 bits
abbrev pub shifted : ℕ → ℕ → Evaluated ℕ
shifted count value = if nat_lt count 64 then Ok value else Err ShiftTooFar

-- a divisor is not zero
abbrev pub divided : ℕ → ℕ → Evaluated ℕ
divided divisor value = if nat_eq divisor 0 then Err DivisionByZero else Ok value

-- a signed number has a place in 64 bits: it is from -2^63 to 2^63 - 1, where `negsuc n` is -(n + 1)
abbrev pub fits : ℤ → Bool
fits (pos n) = nat_lt n (2 ^ 63)
fits (negsuc n) = nat_lt n (2 ^ 63)

-- why signed numbers have no quotient
abbrev pub no_quotient : ℕ → EvaluationFault
no_quotient divisor = if nat_eq divisor 0 then DivisionByZero else QuotientTooLarge

-- signed numbers have a quotient
abbrev pub has_quotient : ℕ → ℕ → Bool
has_quotient a b = not (nat_eq b 0) && fits (int_div (signed a) (signed b))

-- the quotient or the remainder of signed numbers that have a quotient
abbrev pub signed_divided : ℕ → ℕ → (ℤ → ℤ → ℤ) → Evaluated ℕ
signed_divided a b number = if has_quotient a b then Ok (unsigned (number (signed a) (signed b))) else Err (no_quotient b)

-- `a b ⇒`
abbrev pub binary_value : Binary → ℕ → ℕ → Evaluated ℕ
binary_value Add a b = Ok ((a + b) % 2 ^ 64)
binary_value Sub a b = Ok ((a + (2 ^ 64 - b)) % 2 ^ 64)
binary_value Mul a b = Ok (a * b % 2 ^ 64)
binary_value DivSigned a b = signed_divided a b int_div
binary_value DivUnsigned a b = divided b (a / b)
binary_value RemSigned a b = signed_divided a b int_rem
binary_value RemUnsigned a b = divided b (a % b)
binary_value Lsh a b = shifted b (a * 2 ^ b % 2 ^ 64)
binary_value RshSigned a b = shifted b (unsigned (int_div_euclid (signed a) (pos (2 ^ b))))
binary_value RshUnsigned a b = shifted b (a / 2 ^ b)
binary_value BitAnd a b = Ok (bit_and a b)
binary_value BitOr a b = Ok (bit_or a b)
binary_value BitXor a b = Ok (bit_xor a b)
binary_value Equal a b = Ok (truth (nat_eq a b))
binary_value LessSigned a b = Ok (truth (int_lt (signed a) (signed b)))
binary_value LessUnsigned a b = Ok (truth (nat_lt a b))

-- the low n bits of a value as a signed number, whose sign is worth half of 2^n
abbrev pub sign_extended : ℕ → ℕ → ℕ
sign_extended n low = if nat_lt low (2 ^ n / 2) then low else low + (2 ^ 64 - 2 ^ n)

-- `a ⇒`; 64 bits or more are all of a value
abbrev pub unary_value : Unary → ℕ → Evaluated ℕ
unary_value LogNot a = Ok (truth (nat_eq a 0))
unary_value BitNot a = Ok (2 ^ 64 - 1 - a)
unary_value (Ext n) a =
    if nat_eq n 0 then Err NoSignBit
    else (if nat_lt n 64 then Ok (sign_extended n (a % 2 ^ n)) else Ok a)
unary_value (ZeroExt n) a = if nat_lt n 64 then Ok (a % 2 ^ n) else Ok a
