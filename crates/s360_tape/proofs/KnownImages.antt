-- Files of tapes worked by hand, which the definitions have to give.
use Rattle.std.proofs.Common.{◌≡◌, ◌++◌, ◌∷◌, ℕ, List, [], Some, None, length, take, refl, arith}
use Rattle.s360_tape.specs.declared.fault.TapeFault.{TapeFault}
use Rattle.s360_tape.specs.declared.fault.TapeFault.TheVariants.{ShortHeader, BadFlags, PartOutOfPlace, ShortBlock, BlockTooLong}
use Rattle.s360_tape.specs.declared.item.TapeItem.{TapeItem}
use Rattle.s360_tape.specs.declared.item.TapeItem.TheVariants.{Block, Mark}
use Rattle.s360_tape.specs.Parts.{Unchecked, part}
use Rattle.s360_tape.specs.Images.{Begins, nothing, mark, whole_block, first_part, last_part, IsTapeFile, HasFault, fault_at, tape_file}

-- a block of three bytes, a mark, and a block of one
abbrev three_items : List TapeItem
three_items = Block (0xC1 ∷ 0xC2 ∷ 0xC3 ∷ []) ∷ Mark ∷ Block (0xD1 ∷ []) ∷ []

-- 03 00 00 00 A0 00 C1 C2 C3, 00 00 03 00 40 00, 01 00 00 00 A0 00 D1
abbrev first_part_of_file : List ℕ
first_part_of_file = 0x03 ∷ 0x00 ∷ 0x00 ∷ 0x00 ∷ 0xA0 ∷ 0x00 ∷ 0xC1 ∷ 0xC2 ∷ 0xC3 ∷ []

abbrev second_part_of_file : List ℕ
second_part_of_file = 0x00 ∷ 0x00 ∷ 0x03 ∷ 0x00 ∷ 0x40 ∷ 0x00 ∷ []

abbrev third_part_of_file : List ℕ
third_part_of_file = 0x01 ∷ 0x00 ∷ 0x00 ∷ 0x00 ∷ 0xA0 ∷ 0x00 ∷ 0xD1 ∷ []

abbrev file_of_three : List ℕ
file_of_three = first_part_of_file ++ (second_part_of_file ++ third_part_of_file)

pub file_of_items : tape_file three_items ≡ file_of_three
file_of_items = refl

abbrev free : ℕ → Unchecked
free previous = record { previous_low = previous; previous_high = 0; last = 0 }

pub one_block : IsTapeFile first_part_of_file (Block (0xC1 ∷ 0xC2 ∷ 0xC3 ∷ []) ∷ [])
one_block = whole_block [] [] (0xC1 ∷ 0xC2 ∷ 0xC3 ∷ []) (free 0) nothing (omega arith)

pub block_and_mark : IsTapeFile (first_part_of_file ++ second_part_of_file) (Block (0xC1 ∷ 0xC2 ∷ 0xC3 ∷ []) ∷ Mark ∷ [])
block_and_mark = mark first_part_of_file (Block (0xC1 ∷ 0xC2 ∷ 0xC3 ∷ []) ∷ []) (free 3) one_block

pub whole_of_it : IsTapeFile file_of_three three_items
whole_of_it = whole_block (first_part_of_file ++ second_part_of_file) (Block (0xC1 ∷ 0xC2 ∷ 0xC3 ∷ []) ∷ Mark ∷ []) (0xD1 ∷ []) (free 0) block_and_mark (omega arith)

-- no bytes: a blank tape
pub blank : IsTapeFile [] []
blank = nothing

-- the first bytes of the file: faults at 0, at 9 and at 15
at_0 : (rest : List ℕ) (fault : TapeFault) → fault_at None 0 rest ≡ Some fault → HasFault rest fault
at_0 rest fault e = record { before = []; rest = rest; joined = refl; items = []; block = None; begins = nothing; is_first = e }

at_9 : (rest : List ℕ) (fault : TapeFault) → fault_at None 9 rest ≡ Some fault → HasFault (first_part_of_file ++ rest) fault
at_9 rest fault e = record { before = first_part_of_file; rest = rest; joined = refl; items = _; block = None; begins = one_block; is_first = e }

at_15 : (rest : List ℕ) (fault : TapeFault) → fault_at None 15 rest ≡ Some fault → HasFault (first_part_of_file ++ second_part_of_file ++ rest) fault
at_15 rest fault e = record { before = first_part_of_file ++ second_part_of_file; rest = rest; joined = refl; items = _; block = None; begins = block_and_mark; is_first = e }

abbrev ShortHeaderAt : ℕ → ℕ → Type 0
ShortHeaderAt place count = HasFault (take count file_of_three) (ShortHeader place)

pub first_header_is_short : ShortHeaderAt 0 1 × ShortHeaderAt 0 2 × ShortHeaderAt 0 3 × ShortHeaderAt 0 4 × ShortHeaderAt 0 5
first_header_is_short = (at_0 _ _ refl, at_0 _ _ refl, at_0 _ _ refl, at_0 _ _ refl, at_0 _ _ refl)

pub first_block_is_short : HasFault (take 6 file_of_three) (ShortBlock 0) × HasFault (take 7 file_of_three) (ShortBlock 0) × HasFault (take 8 file_of_three) (ShortBlock 0)
first_block_is_short = (at_0 _ _ refl, at_0 _ _ refl, at_0 _ _ refl)

pub second_header_is_short : ShortHeaderAt 9 10 × ShortHeaderAt 9 11 × ShortHeaderAt 9 12 × ShortHeaderAt 9 13 × ShortHeaderAt 9 14
second_header_is_short =
    (at_9 (take 1 second_part_of_file) _ refl, at_9 (take 2 second_part_of_file) _ refl, at_9 (take 3 second_part_of_file) _ refl, at_9 (take 4 second_part_of_file) _ refl, at_9 (take 5 second_part_of_file) _ refl)

pub third_header_is_short : ShortHeaderAt 15 16 × ShortHeaderAt 15 17 × ShortHeaderAt 15 18 × ShortHeaderAt 15 19 × ShortHeaderAt 15 20
third_header_is_short =
    (at_15 (take 1 third_part_of_file) _ refl, at_15 (take 2 third_part_of_file) _ refl, at_15 (take 3 third_part_of_file) _ refl, at_15 (take 4 third_part_of_file) _ refl, at_15 (take 5 third_part_of_file) _ refl)

pub third_block_is_short : HasFault (take 21 file_of_three) (ShortBlock 15)
third_block_is_short = at_15 (take 6 third_part_of_file) _ refl

-- 03 00 00 00 A0 00 C1 C2 C3 01 00
pub header_of_two_bytes : HasFault (first_part_of_file ++ 0x01 ∷ 0x00 ∷ []) (ShortHeader 9)
header_of_two_bytes = at_9 (0x01 ∷ 0x00 ∷ []) _ refl

-- 02 00 00 00 80 00 C1 C2, 01 00 02 00 20 00 C3: one block in two parts
abbrev two_parts_first : List ℕ
two_parts_first = 0x02 ∷ 0x00 ∷ 0x00 ∷ 0x00 ∷ 0x80 ∷ 0x00 ∷ 0xC1 ∷ 0xC2 ∷ []

begins_with_first : Begins two_parts_first [] (Some (0xC1 ∷ 0xC2 ∷ []))
begins_with_first = first_part [] [] (0xC1 ∷ 0xC2 ∷ []) (free 0) nothing (omega arith)

pub one_block_in_parts : IsTapeFile (two_parts_first ++ 0x01 ∷ 0x00 ∷ 0x02 ∷ 0x00 ∷ 0x20 ∷ 0x00 ∷ 0xC3 ∷ []) (Block (0xC1 ∷ 0xC2 ∷ 0xC3 ∷ []) ∷ [])
one_block_in_parts = last_part two_parts_first [] (0xC1 ∷ 0xC2 ∷ []) (0xC3 ∷ []) (free 2) begins_with_first (omega arith)

-- inside of it: the end of the file, and a mark
in_parts : (rest : List ℕ) (fault : TapeFault) → fault_at (Some 2) 8 rest ≡ Some fault → HasFault (two_parts_first ++ rest) fault
in_parts rest fault e = record { before = two_parts_first; rest = rest; joined = refl; items = []; block = Some (0xC1 ∷ 0xC2 ∷ []); begins = begins_with_first; is_first = e }

pub ends_inside : HasFault two_parts_first (PartOutOfPlace 8)
ends_inside = in_parts [] _ refl

pub mark_inside : HasFault (two_parts_first ++ second_part_of_file) (PartOutOfPlace 8)
mark_inside = in_parts second_part_of_file _ refl

-- 00 00 00 00 20 00: a last part outside of a block
pub last_part_outside : HasFault (0x00 ∷ 0x00 ∷ 0x00 ∷ 0x00 ∷ 0x20 ∷ 0x00 ∷ []) (PartOutOfPlace 0)
last_part_outside = at_0 _ _ refl

-- 00 00 00 00 60 00 and 01 00 00 00 40 00: no such flags, and a mark of one byte
pub unknown_flags : HasFault (0x00 ∷ 0x00 ∷ 0x00 ∷ 0x00 ∷ 0x60 ∷ 0x00 ∷ []) (BadFlags 0)
unknown_flags = at_0 _ _ refl

pub mark_with_length : HasFault (0x01 ∷ 0x00 ∷ 0x00 ∷ 0x00 ∷ 0x40 ∷ 0x00 ∷ []) (BadFlags 0)
mark_with_length = at_0 _ _ refl

-- a first part of 65,535 bytes and a last part of one
pub one_byte_too_many : (bytes : List ℕ) → length bytes ≡ 65535 → HasFault (part 0x80 bytes (free 0) ++ part 0x20 (0xC1 ∷ []) (free 255)) (BlockTooLong 65541)
one_byte_too_many bytes h = record {
  before = part 0x80 bytes (free 0);
  rest = part 0x20 (0xC1 ∷ []) (free 255);
  joined = refl;
  items = [];
  block = Some bytes;
  begins = first_part [] [] bytes (free 0) nothing (omega (arith, h));
  is_first = rw h refl;
}
