-- A file is read in one way: what comes after each part is fixed, and a reading ends at the end of a tape's file or at
-- the first fault.
use Rattle.std.proofs.Common.{◌≡◌, ◌≤◌, ◌+◌, ◌*◌, ◌/◌, ◌%◌, ◌∙◌, ◌++◌, ◌∷◌, ℕ, suc, List, [], Bool, false, Some, None, length, take, drop, get_or, refl, ap, sym, arith, append_assoc, length-append, Option, is_some, nat_lt, option_map, take_at, drop_at, append-nil}
use Rattle.std.proofs.lemmas.Bool.Decides.{nat_tests}
use Rattle.std.proofs.lemmas.Option.{same_Some, none-some}
use Rattle.s360_model.specs.Tables.{entry_in}
use Rattle.s360_tape.specs.declared.fault.TapeFault.{TapeFault}
use Rattle.s360_tape.specs.declared.fault.TapeFault.TheVariants.{ShortHeader, ShortBlock, BlockTooLong}
use Rattle.s360_tape.specs.declared.item.TapeItem.{TapeItem}
use Rattle.s360_tape.specs.declared.part_kind.PartKind.{PartKind}
use Rattle.s360_tape.specs.declared.part_kind.PartKind.TheVariants.{Whole, First, Middle, Last, Mark}
use Rattle.s360_tape.specs.Blocks.{block_limit}
use Rattle.s360_tape.specs.Parts.{Unchecked, part, part_flags, goes_inside, flags_of}
use Rattle.s360_tape.specs.Images.{Begins, nothing, mark, whole_block, first_part, middle_part, last_part, IsTapeFile, HasFault, fault_at, first_of}
use Rattle.s360_tape.specs.NextParts.{so_far, block_after, items_after}

-- how far a reading has come, and what is left
record State : Type 0 where
  items : List TapeItem
  block : Option (List ℕ)
  place : ℕ
  rest : List ℕ

abbrev start : List ℕ → State
start file = record { items = []; block = None; place = 0; rest = file }

-- after a part more
abbrev state_after : State → PartKind → List ℕ → List ℕ → State
state_after s kind bytes rest = record {
  items = items_after s.items (so_far s.block) kind bytes;
  block = block_after s.block kind bytes;
  place = s.place + (6 + length bytes);
  rest = rest;
}

-- the reading goes on over one part, which is in order
record IsStep (s t : State) : Type 0 where
  kind : PartKind
  bytes : List ℕ
  free : Unchecked
  rest : List ℕ
  head : s.rest ≡ part (flags_of kind) bytes free ++ rest
  empty : kind ≡ Mark → bytes ≡ []
  inner : goes_inside kind ≡ is_some s.block
  short : length (so_far s.block) + length bytes ≤ block_limit
  then : t ≡ state_after s kind bytes rest

-- a kind is known by its flags
kind-of_flags : (kind : PartKind) → entry_in part_flags (flags_of kind) ≡ Some kind
kind-of_flags Whole = refl
kind-of_flags First = refl
kind-of_flags Middle = refl
kind-of_flags Last = refl
kind-of_flags Mark = refl

same_kind : (kind other : PartKind) → flags_of kind ≡ flags_of other → kind ≡ other
same_kind kind other e = same_Some kind other (sym (kind-of_flags kind) ∙ ap (λ flags. entry_in part_flags flags) e ∙ kind-of_flags other)

-- two parts that begin one list
same_count : (n m : ℕ) → n % 256 ≡ m % 256 → n / 256 ≡ m / 256 → n ≡ m
same_count n m low high = omega arith

record AreSame (kind other : PartKind) (bytes others rest left : List ℕ) : Type 0 where
  kinds : kind ≡ other
  contents : bytes ≡ others
  rests : rest ≡ left

same_part : (kind other : PartKind) (bytes others rest left : List ℕ) (free loose : Unchecked) → part (flags_of kind) bytes free ++ rest ≡ part (flags_of other) others loose ++ left → AreSame kind other bytes others rest left
same_part kind other bytes others rest left free loose e =
    let flags : flags_of kind ≡ flags_of other = ap (λ xs. get_or xs 4 0) e
    in let count : length bytes ≡ length others = same_count (length bytes) (length others) (ap (λ xs. get_or xs 0 0) e) (ap (λ xs. get_or xs 1 0) e)
    in let tails : bytes ++ rest ≡ others ++ left = ap (λ (xs : List ℕ). drop 6 xs) e
    in record {
      kinds = same_kind kind other flags;
      contents = sym (take_at bytes rest (length bytes) refl) ∙ ap (λ xs. take (length bytes) xs) tails ∙ take_at others left (length bytes) (sym count);
      rests = sym (drop_at bytes rest (length bytes) refl) ∙ ap (λ xs. drop (length bytes) xs) tails ∙ drop_at others left (length bytes) (sym count);
    }

IsStep-same : (s t u : State) → IsStep s t → IsStep s u → t ≡ u
IsStep-same s t u a b =
    let same : AreSame a.kind b.kind a.bytes b.bytes a.rest b.rest = same_part a.kind b.kind a.bytes b.bytes a.rest b.rest a.free b.free (sym a.head ∙ b.head)
    in a.then
    ∙ ap (λ kind. state_after s kind a.bytes a.rest) same.kinds
    ∙ ap (λ bytes. state_after s b.kind bytes a.rest) same.contents
    ∙ ap (λ rest. state_after s b.kind b.bytes rest) same.rests
    ∙ sym b.then

-- a reading that goes on over parts
data Reaches : State → State → Type 0 where
  here : (s : State) → Reaches s s
  then_on : (s t u : State) → IsStep s t → Reaches t u → Reaches s u

Reaches-then : (s t u : State) → Reaches s t → IsStep t u → Reaches s u
Reaches-then _ _ u (here s) step = then_on s u u step (here u)
Reaches-then _ _ u (then_on s v t first rest) step = then_on s v u first (Reaches-then v t u rest step)

abbrev IsEnd : State → Type 0
IsEnd s = (t : State) → IsStep s t → ⊥

Reaches-same : (s t u : State) → Reaches s t → Reaches s u → IsEnd t → IsEnd u → t ≡ u
Reaches-same _ _ _ (here s) (here _) e f = refl
Reaches-same _ _ _ (here s) (then_on _ v u step rest) e f = absurd (e v step)
Reaches-same _ _ _ (then_on s v t step rest) (here _) e f = absurd (f v step)
Reaches-same _ _ _ (then_on s v t step rest) (then_on _ w u other left) e f =
    Reaches-same v t u rest (rw (IsStep-same s v w step other) left) e f

-- a file that begins as a tape's is read up to there
abbrev state_of : List ℕ → List TapeItem → Option (List ℕ) → List ℕ → State
state_of file items block rest = record { items = items; block = block; place = length file; rest = rest }

Reaches-part : (file : List ℕ) (items : List TapeItem) (block : Option (List ℕ)) (kind : PartKind) (bytes : List ℕ) (free : Unchecked) (rest : List ℕ)
    → Reaches (start (file ++ (part (flags_of kind) bytes free ++ rest))) (state_of file items block (part (flags_of kind) bytes free ++ rest))
    → (kind ≡ Mark → bytes ≡ []) → goes_inside kind ≡ is_some block → length (so_far block) + length bytes ≤ block_limit
    → Reaches (start ((file ++ part (flags_of kind) bytes free) ++ rest)) (state_of (file ++ part (flags_of kind) bytes free) (items_after items (so_far block) kind bytes) (block_after block kind bytes) rest)
Reaches-part file items block kind bytes free rest r m p l =
    let here_after : State = state_of file items block (part (flags_of kind) bytes free ++ rest)
    in let there : State = state_of (file ++ part (flags_of kind) bytes free) (items_after items (so_far block) kind bytes) (block_after block kind bytes) rest
    in let n : length (file ++ part (flags_of kind) bytes free) ≡ length file + (6 + length bytes) = omega (arith, length-append file (part (flags_of kind) bytes free))
    in let step : IsStep here_after there = record {
      kind = kind;
      bytes = bytes;
      free = free;
      rest = rest;
      head = refl;
      empty = m;
      inner = p;
      short = l;
      then = ap (λ (place : ℕ). record { items = items_after items (so_far block) kind bytes; block = block_after block kind bytes; place = place; rest = rest }) n;
    }
    in rw (append_assoc file (part (flags_of kind) bytes free) rest) (Reaches-then _ _ _ r step)

Begins-reaches : (file : List ℕ) (items : List TapeItem) (block : Option (List ℕ)) → Begins file items block → (rest : List ℕ) → Reaches (start (file ++ rest)) (state_of file items block rest)
Begins-reaches _ _ _ nothing rest = here (start rest)
Begins-reaches _ _ _ (mark file items free b) rest =
    Reaches-part file items None Mark [] free rest (Begins-reaches file items None b _) (λ e. refl) refl (omega arith)
Begins-reaches _ _ _ (whole_block file items bytes free b l) rest =
    Reaches-part file items None Whole bytes free rest (Begins-reaches file items None b _) (λ e. absurd (cc)) refl (omega (arith, l))
Begins-reaches _ _ _ (first_part file items bytes free b l) rest =
    Reaches-part file items None First bytes free rest (Begins-reaches file items None b _) (λ e. absurd (cc)) refl (omega (arith, l))
Begins-reaches _ _ _ (middle_part file items block bytes free b l) rest =
    Reaches-part file items (Some block) Middle bytes free rest (Begins-reaches file items (Some block) b _) (λ e. absurd (cc)) refl (omega (arith, l, length-append block bytes))
Begins-reaches _ _ _ (last_part file items block bytes free b l) rest =
    Reaches-part file items (Some block) Last bytes free rest (Begins-reaches file items (Some block) b _) (λ e. absurd (cc)) refl (omega (arith, l, length-append block bytes))

-- a part that is in order has no fault
none_of : (p q r : Bool) (f g h : TapeFault) → p ≡ false → q ≡ false → r ≡ false → first_of ((p, f) ∷ (q, g) ∷ (r, h) ∷ []) ≡ None
none_of p q r f g h a b c = rw (a, b, c) refl

joined_count : (n : ℕ) → n % 256 + 256 * (n / 256) ≡ n
joined_count n = omega arith

long_header : (n : ℕ) → nat_lt (suc (suc (suc (suc (suc (suc n)))))) 6 ≡ false
long_header n = grind (arith, nat_tests)

whole_part : (bytes rest : List ℕ) → nat_lt (suc (suc (suc (suc (suc (suc (length (bytes ++ rest)))))))) (6 + (length bytes % 256 + 256 * (length bytes / 256))) ≡ false
whole_part bytes rest = rw (joined_count (length bytes), length-append bytes rest) (grind (arith, nat_tests))

short_block : (n : ℕ) (bytes : List ℕ) → n + length bytes ≤ block_limit → nat_lt block_limit (n + (length bytes % 256 + 256 * (length bytes / 256))) ≡ false
short_block n bytes h = rw (joined_count (length bytes)) (grind (arith, nat_tests))

no_fault : (block : Option (List ℕ)) (place : ℕ) (kind : PartKind) (bytes : List ℕ) (free : Unchecked) (rest : List ℕ)
    → (kind ≡ Mark → bytes ≡ []) → goes_inside kind ≡ is_some block → length (so_far block) + length bytes ≤ block_limit
    → fault_at (option_map length block) place (part (flags_of kind) bytes free ++ rest) ≡ None
no_fault None place Whole bytes free rest m p l = none_of _ _ _ _ _ _ (long_header (length (bytes ++ rest))) (whole_part bytes rest) (short_block 0 bytes l)
no_fault None place First bytes free rest m p l = none_of _ _ _ _ _ _ (long_header (length (bytes ++ rest))) (whole_part bytes rest) (short_block 0 bytes l)
no_fault None place Mark bytes free rest m p l = rw (m refl) (none_of _ _ _ (ShortHeader place) (ShortBlock place) (BlockTooLong place) (long_header (length rest)) (whole_part [] rest) (short_block 0 [] (omega arith)))
no_fault (Some block) place Middle bytes free rest m p l = none_of _ _ _ _ _ _ (long_header (length (bytes ++ rest))) (whole_part bytes rest) (short_block (length block) bytes l)
no_fault (Some block) place Last bytes free rest m p l = none_of _ _ _ _ _ _ (long_header (length (bytes ++ rest))) (whole_part bytes rest) (short_block (length block) bytes l)
no_fault block place kind bytes free rest m p l = absurd (cc)

IsEnd-fault : (s : State) (fault : TapeFault) → fault_at (option_map length s.block) s.place s.rest ≡ Some fault → IsEnd s
IsEnd-fault s fault h t step = none-some fault (sym (rw step.head (no_fault s.block s.place step.kind step.bytes step.free step.rest step.empty step.inner step.short)) ∙ h)

IsEnd-empty : (s : State) → s.rest ≡ [] → IsEnd s
IsEnd-empty s h t step = let n : length s.rest ≡ 0 = ap length h in let k : length s.rest ≡ length (part (flags_of step.kind) step.bytes step.free ++ step.rest) = ap length step.head in omega (arith, n, k)

-- the whole of a tape's file is read, and any other up to its first fault
Reaches-whole : (file : List ℕ) (items : List TapeItem) → IsTapeFile file items → Reaches (start file) (state_of file items None [])
Reaches-whole file items b = rw (append-nil file) at (Begins-reaches file items None b [])

Reaches-fault : (file : List ℕ) (fault : TapeFault) (h : HasFault file fault) → Reaches (start file) (state_of h.before h.items h.block h.rest)
Reaches-fault file fault h = rw h.joined at (Begins-reaches h.before h.items h.block h.begins h.rest)

pub file_has_items_once : (file : List ℕ) (items others : List TapeItem) → IsTapeFile file items → IsTapeFile file others → items ≡ others
file_has_items_once file items others b d =
    ap (λ (s : State). s.items) (Reaches-same (start file) (state_of file items None []) (state_of file others None []) (Reaches-whole file items b) (Reaches-whole file others d) (IsEnd-empty _ refl) (IsEnd-empty _ refl))

abbrev fault_in : State → Option TapeFault
fault_in s = fault_at (option_map length s.block) s.place s.rest

pub no_tape_file_has_fault : (file : List ℕ) (items : List TapeItem) (fault : TapeFault) → IsTapeFile file items → HasFault file fault → ⊥
no_tape_file_has_fault file items fault b h =
    let there : State = state_of h.before h.items h.block h.rest
    in let same : state_of file items None [] ≡ there = Reaches-same (start file) (state_of file items None []) there (Reaches-whole file items b) (Reaches-fault file fault h) (IsEnd-empty _ refl) (IsEnd-fault there fault h.is_first)
    in none-some fault (ap fault_in same ∙ h.is_first)

pub file_has_fault_once : (file : List ℕ) (fault other : TapeFault) → HasFault file fault → HasFault file other → fault ≡ other
file_has_fault_once file fault other h k =
    let there : State = state_of h.before h.items h.block h.rest
    in let here_too : State = state_of k.before k.items k.block k.rest
    in let same : there ≡ here_too = Reaches-same (start file) there here_too (Reaches-fault file fault h) (Reaches-fault file other k) (IsEnd-fault there fault h.is_first) (IsEnd-fault here_too other k.is_first)
    in same_Some fault other (sym h.is_first ∙ ap fault_in same ∙ k.is_first)
