-- The signs of EBCDIC bytes, and their bytes in ASCII (own profile: the letters, digits and special characters that
-- both codes have).
use Rattle.std.specs.Prelude.{ℕ, ◌+◌, Option, List, [], ◌∷◌, ◌++◌, codes, zip}
use Rattle.s360_model.specs.Tables.{entry_in}

-- an EBCDIC byte, and the signs of it and of the bytes that follow it, each as its byte in ASCII
abbrev pub sign_rows : List (ℕ × List ℕ)
sign_rows =
    (0x40, codes " ")
    ∷ (0x4B, codes ".<(+|")
    ∷ (0x50, codes "&")
    ∷ (0x5A, codes "!$*);")
    ∷ (0x60, codes "-/")
    ∷ (0x6B, codes ",%_>?")
    ∷ (0x7A, codes ":#@'=\"")
    ∷ (0x81, codes "abcdefghi")
    ∷ (0x91, codes "jklmnopqr")
    ∷ (0xA2, codes "stuvwxyz")
    ∷ (0xC1, codes "ABCDEFGHI")
    ∷ (0xD1, codes "JKLMNOPQR")
    ∷ (0xE2, codes "STUVWXYZ")
    ∷ (0xF0, codes "0123456789")
    ∷ []

-- bytes that follow one another from a byte on, as many as there are signs
abbrev pub bytes_from : ℕ → List ℕ → List ℕ
bytes_from byte [] = []
bytes_from byte (sign ∷ signs) = byte ∷ bytes_from (byte + 1) signs

-- the EBCDIC bytes that have a sign, and their signs in the same order
abbrev pub ebcdic_in : List (ℕ × List ℕ) → List ℕ
ebcdic_in [] = []
ebcdic_in (row ∷ rows) = bytes_from row.0 row.1 ++ ebcdic_in rows

abbrev pub ascii_in : List (ℕ × List ℕ) → List ℕ
ascii_in [] = []
ascii_in (row ∷ rows) = row.1 ++ ascii_in rows

-- the sign of an EBCDIC byte in ASCII, if it has one
abbrev pub ascii_of : ℕ → Option ℕ
ascii_of byte = entry_in (zip (ebcdic_in sign_rows) (ascii_in sign_rows)) byte

-- the EBCDIC byte of a sign in ASCII, if it has one
abbrev pub ebcdic_of : ℕ → Option ℕ
ebcdic_of sign = entry_in (zip (ascii_in sign_rows) (ebcdic_in sign_rows)) sign
