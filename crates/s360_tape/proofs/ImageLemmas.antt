-- A reading of a tape's file, part by part.
use Rattle.std.proofs.Common.{◌≡◌, ◌<◌, ◌≤◌, ◌+◌, ◌*◌, ◌/◌, ◌%◌, ◌∙◌, ◌++◌, ◌∷◌, ℕ, suc, List, [], Some, None, length, take, drop, get_or, refl, ap, sym, arith, length-append, length-take, length-drop, Option, is_some, IfSome, slice_index, take_all}
use Rattle.std.specs.Option.{option_map, option_map_or}
use Rattle.std.proofs.Math.Seq.{take-add}
use Rattle.s360_tape.specs.declared.item.TapeItem.{TapeItem}
use Rattle.s360_tape.specs.declared.part_kind.PartKind.{PartKind}
use Rattle.s360_tape.specs.declared.part_kind.PartKind.TheVariants.{Whole, First, Middle, Last, Mark}
use Rattle.s360_tape.specs.Blocks.{block_limit}
use Rattle.s360_tape.specs.Parts.{Unchecked, part, goes_inside, flags_of, header_length, flags_at, count_at, bytes_at}
use Rattle.s360_tape.specs.Images.{Begins, nothing, mark, whole_block, first_part, middle_part, last_part, IsSomeTapeFile}
use Rattle.s360_tape.specs.NextParts.{IsNextPart, IsScanned, IsTaken, so_far, count_after, block_after, items_after, kept_after}

-- what is not checked of the header with which a rest begins
abbrev pub free_at : List ℕ → Unchecked
free_at rest = record { previous_low = get_or rest 2 0; previous_high = get_or rest 3 0; last = get_or rest 5 0 }

-- the bytes of a part are a part with its flags and bytes
part-tail : (n a b c d e f : ℕ) (tail : List ℕ) → n ≡ a + 256 * b → n ≤ length tail → a < 256 → take (6 + n) (a ∷ b ∷ c ∷ d ∷ e ∷ f ∷ tail) ≡ part e (take n tail) (record { previous_low = c; previous_high = d; last = f })
part-tail n a b c d e f tail k h l =
    let s : 6 + n ≡ suc (suc (suc (suc (suc (suc n))))) = omega arith
    in let t : length (take n tail) ≡ n = simp length-take (omega arith)
    in let low : n % 256 ≡ a = omega arith
    in let high : n / 256 ≡ b = omega arith
    in rw (s, t, low, high) refl

pub part-of_rest : (rest : List ℕ) → header_length + count_at rest ≤ length rest → slice_index rest 0 < 256
    → take (header_length + count_at rest) rest ≡ part (flags_at rest) (bytes_at rest) (free_at rest)
part-of_rest (a ∷ b ∷ c ∷ d ∷ e ∷ f ∷ tail) h l = part-tail (a + 256 * b) a b c d e f tail refl (omega arith) l
part-of_rest rest h l = absurd (omega arith)

-- a file that begins as a tape's does so after a part more
Begins-part : (file : List ℕ) (items : List TapeItem) (block : Option (List ℕ)) (kind : PartKind) (bytes : List ℕ) (free : Unchecked)
    → Begins file items block → (kind ≡ Mark → bytes ≡ []) → goes_inside kind ≡ is_some block → length (so_far block) + length bytes ≤ block_limit
    → Begins (file ++ part (flags_of kind) bytes free) (items_after items (so_far block) kind bytes) (block_after block kind bytes)
Begins-part file items None Mark bytes free b m p l = rw (m refl) (mark file items free b)
Begins-part file items None Whole bytes free b m p l = whole_block file items bytes free b (omega (arith, l))
Begins-part file items None First bytes free b m p l = first_part file items bytes free b (omega (arith, l))
Begins-part file items (Some block) Middle bytes free b m p l = middle_part file items block bytes free b (omega (arith, length-append block bytes, l))
Begins-part file items (Some block) Last bytes free b m p l = last_part file items block bytes free b (omega (arith, length-append block bytes, l))
Begins-part file items block kind bytes free b m p l = absurd (cc)

-- of the block so far
so_far-count : (block : Option (List ℕ)) → option_map_or (λ n. n) (option_map length block) 0 ≡ length (so_far block)
so_far-count None = refl
so_far-count (Some bytes) = refl

is_some-count : (block : Option (List ℕ)) → is_some (option_map length block) ≡ is_some block
is_some-count None = refl
is_some-count (Some bytes) = refl

counts-after : (block : Option (List ℕ)) (kind : PartKind) (bytes : List ℕ) → option_map length (block_after block kind bytes) ≡ count_after (option_map length block) kind (length bytes)
counts-after block First bytes = refl
counts-after block Middle bytes = ap (λ n. Some n) (length-append (so_far block) bytes ∙ ap (λ n. n + length bytes) (sym (so_far-count block)))
counts-after block kind bytes = refl

holds-after : (block : Option (List ℕ)) (kind : PartKind) (bytes : List ℕ) → goes_inside kind ≡ is_some block → kept_after (so_far block) kind bytes ≡ so_far (block_after block kind bytes)
holds-after None First bytes p = refl
holds-after None Whole bytes p = refl
holds-after None Mark bytes p = refl
holds-after (Some block) Middle bytes p = refl
holds-after (Some block) Last bytes p = refl
holds-after block kind bytes p = absurd (cc)

no_bytes : (bytes : List ℕ) → length bytes ≡ 0 → bytes ≡ []
no_bytes [] h = refl
no_bytes (b ∷ bytes) h = absurd (omega arith)

-- up to the end of the next part it begins as a tape's
Begins-next : (file : List ℕ) (place : ℕ) (inside : Option ℕ) (items : List TapeItem) (block : Option (List ℕ)) (kind : PartKind) (bytes : List ℕ)
    → Begins (take place file) items block → option_map length block ≡ inside → IsNextPart inside (drop place file) kind bytes
    → Begins (take (place + (header_length + length bytes)) file) (items_after items (so_far block) kind bytes) (block_after block kind bytes)
Begins-next file place inside items block kind bytes b e n =
    let rest : List ℕ = drop place file
    in let p : take (header_length + length bytes) rest ≡ part (flags_of kind) bytes (free_at rest)
    = ap (λ count. take (header_length + count) rest) n.count
    ∙ part-of_rest rest n.stands n.low
    ∙ ap (λ (b : List ℕ). part (flags_at rest) b (free_at rest)) (sym n.are)
    ∙ ap (λ (f : ℕ). part f bytes (free_at rest)) n.flags
    in let m : kind ≡ Mark → bytes ≡ [] = λ k. no_bytes bytes (n.count ∙ n.empty k)
    in let inner : goes_inside kind ≡ is_some block = n.place ∙ ap (λ i. is_some i) (sym e) ∙ is_some-count block
    in let fits : length (so_far block) + length bytes ≤ block_limit = omega (arith, n.fits, n.count, so_far-count block, ap (λ i. option_map_or (λ n. n) i 0) e)
    in rw (take-add place (header_length + length bytes) file, p) (Begins-part (take place file) items block kind bytes (free_at rest) b m inner fits)

pub IsScanned-start : (file : List ℕ) → IsScanned file 0 None
IsScanned-start file = record { within = omega arith; short = tt; items = []; block = None; begins = nothing; counts = refl }

pub IsTaken-start : (file : List ℕ) → IsTaken file 0 None [] []
IsTaken-start file = record { within = omega arith; short = tt; block = None; begins = nothing; counts = refl; holds = refl }

-- the part that comes next is scanned
pub IsScanned-next : (file : List ℕ) (place : ℕ) (inside : Option ℕ) (kind : PartKind) (bytes : List ℕ) (after : Option ℕ)
    → IsScanned file place inside → IsNextPart inside (drop place file) kind bytes
    → after ≡ count_after inside kind (length bytes) → IfSome after (λ count. count ≤ block_limit)
    → IsScanned file (place + (header_length + length bytes)) after
IsScanned-next file place inside kind bytes after s n e h = record {
  within = omega (arith, n.stands, n.count, s.within, length-drop place file);
  short = h;
  items = items_after s.items (so_far s.block) kind bytes;
  block = block_after s.block kind bytes;
  begins = Begins-next file place inside s.items s.block kind bytes s.begins s.counts n;
  counts = counts-after s.block kind bytes ∙ ap (λ i. count_after i kind (length bytes)) s.counts ∙ sym e;
}

-- and taken
pub IsTaken-next : (file : List ℕ) (place : ℕ) (inside : Option ℕ) (kind : PartKind) (bytes : List ℕ) (after : Option ℕ) (items : List TapeItem) (kept : List ℕ) (items_then : List TapeItem) (kept_then : List ℕ)
    → IsTaken file place inside items kept → IsNextPart inside (drop place file) kind bytes
    → after ≡ count_after inside kind (length bytes) → IfSome after (λ count. count ≤ block_limit)
    → items_then ≡ items_after items kept kind bytes → kept_then ≡ kept_after kept kind bytes
    → IsTaken file (place + (header_length + length bytes)) after items_then kept_then
IsTaken-next file place inside kind bytes after items kept items_then kept_then s n e h i k =
    let grown : items_then ≡ items_after items (so_far s.block) kind bytes = i ∙ ap (λ b. items_after items b kind bytes) s.holds
    in record {
      within = omega (arith, n.stands, n.count, s.within, length-drop place file);
      short = h;
      block = block_after s.block kind bytes;
      begins = rw grown (Begins-next file place inside items s.block kind bytes s.begins s.counts n);
      counts = counts-after s.block kind bytes ∙ ap (λ i. count_after i kind (length bytes)) s.counts ∙ sym e;
      holds = k ∙ ap (λ b. kept_after b kind bytes) s.holds ∙ holds-after s.block kind bytes (n.place ∙ ap (λ i. is_some i) (sym s.counts) ∙ is_some-count s.block);
    }

-- outside of a block there is none so far
no_block : (block : Option (List ℕ)) → option_map length block ≡ None → block ≡ None
no_block None e = refl
no_block (Some bytes) e = absurd (cc)

-- at the end of the file, outside of a block, it is a tape's
whole_file : (file : List ℕ) (place : ℕ) → place ≤ length file → drop place file ≡ [] → take place file ≡ file
whole_file file place h e =
    let n : length (drop place file) ≡ 0 = ap length e
    in take_all place file (omega (arith, n, length-drop place file))

pub IsSomeTapeFile-scanned : (file : List ℕ) (place : ℕ) → IsScanned file place None → drop place file ≡ [] → IsSomeTapeFile file
IsSomeTapeFile-scanned file place s e = record { items = s.items; is = rw (whole_file file place s.within e, no_block s.block s.counts) at s.begins }
