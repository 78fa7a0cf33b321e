-- What gdb is told of the target (gdb manual, "Target Descriptions", "Memory Map Format", "General Query Packets",
-- "Packets").
use Rattle.std.specs.Prelude.{ℕ, nat_lt, nat_le, if◌then◌else◌, Option, Some, None, List, [], ◌∷◌, ◌++◌, codes, drop, take, length, slice_index, replicate}
use Rattle.std.specs.List.{flat_map}
use Rattle.s360_packet.specs.declared.target.RegisterValue.{RegisterValue}
use Rattle.s360_packet.specs.declared.target.RegisterValue.TheVariants.{Word, NoWord, NoDoubleword}
use Rattle.s360_packet.specs.Hexadecimal.{word_text, number_text}

-- a register: its name, how many bits it has, its type and its group
abbrev pub register_line : List ℕ → List ℕ → List ℕ
register_line name kind = codes "<reg name='" ++ (name ++ kind)

-- sixteen registers, named by a letter or some and a number
abbrev pub sixteen : List ℕ → List ℕ → List ℕ
sixteen name kind =
    flat_map (λ number. register_line (name ++ number) kind)
    (codes "0" ∷ codes "1" ∷ codes "2" ∷ codes "3" ∷ codes "4" ∷ codes "5" ∷ codes "6" ∷ codes "7"
    ∷ codes "8" ∷ codes "9" ∷ codes "10" ∷ codes "11" ∷ codes "12" ∷ codes "13" ∷ codes "14" ∷ codes "15" ∷ [])

-- a feature with its registers
abbrev pub feature : List ℕ → List ℕ → List ℕ
feature name registers = codes "<feature name='org.gnu.gdb.s390." ++ (name ++ (codes "'>" ++ (registers ++ codes "</feature>")))

abbrev pub word_in : List ℕ → List ℕ
word_in group = codes "' bitsize='32' type='uint32' group='" ++ (group ++ codes "'/>")

abbrev pub core_registers : List ℕ
core_registers =
    register_line (codes "pswm") (word_in (codes "psw"))
    ++ (register_line (codes "pswa") (word_in (codes "psw"))
    ++ sixteen (codes "r") (word_in (codes "general")))

abbrev pub float_registers : List ℕ
float_registers =
    register_line (codes "fpc") (word_in (codes "float"))
    ++ sixteen (codes "f") (codes "' bitsize='64' type='ieee_double' group='float'/>")

-- the text of target.xml: registers are numbered in this order, from 0
abbrev pub description : List ℕ
description =
    codes "<?xml version='1.0'?><!DOCTYPE target SYSTEM 'gdb-target.dtd'><target><architecture>s390:31-bit</architecture>"
    ++ (feature (codes "core") core_registers
    ++ (feature (codes "acr") (sixteen (codes "acr") (word_in (codes "access")))
    ++ (feature (codes "fpr") float_registers
    ++ codes "</target>")))

-- the text of the memory map: storage, which has so many bytes, from address 0 on
abbrev pub memory_map : ℕ → List ℕ
memory_map size = codes "<memory-map><memory type='ram' start='0x0' length='0x" ++ (number_text size ++ codes "'/></memory-map>")

-- a part of a text behind `m`, or behind `l` if nothing of the text is left after it
abbrev pub part_of_text : List ℕ → ℕ → List ℕ
part_of_text rest count = if nat_le (length rest) count then codes "l" ++ rest else codes "m" ++ take count rest

-- that part which begins at an offset
abbrev pub part_of : List ℕ → ℕ → ℕ → List ℕ
part_of text offset count = part_of_text (drop offset text) count

-- 18 registers of the machine, then 16 access registers and one for floating-point control, of a word each, and
-- 16 floating-point registers of a doubleword, which it lacks
abbrev pub register_value : List ℕ → ℕ → Option RegisterValue
register_value words number =
    if nat_lt number 18 then Some (Word (slice_index words number))
    else (if nat_lt number 35 then Some NoWord
    else (if nat_lt number 51 then Some NoDoubleword
    else None))

-- a word in eight digits; as many times `x` where there is none
abbrev pub register_text : RegisterValue → List ℕ
register_text (Word word) = word_text word
register_text NoWord = replicate 8 0x78
register_text NoDoubleword = replicate 16 0x78
