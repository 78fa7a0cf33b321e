-- Changes in rows, with lists of what stands apart.
use Rattle.std.proofs.Common.{subst, ◌≡◌, ◌<◌, ◌≤◌, ◌+◌, ◌-◌, ◌^◌, ◌++◌, ◌∙◌, ℕ, zero, suc, List, [], ◌∷◌, refl, ap, sym, take, drop, set, get_or, length, reverse, arith, Some, None, append-nil, Option, Bool, true, false, slice_get, IfSome}
use Rattle.std.proofs.lemmas.List.{append_assoc, drop-append-le, drop-drop, drop-take, drop_all, drop_at, length-append, length-drop, length-reverse, length-take-le, reverse-append, take-append-drop, take-take, take_all, take_at, take_more}
use Rattle.s360_machine.specs.declared.packed.End.{End}
use Rattle.s360_machine.specs.declared.row.PackedRow.{PackedRow}
use Rattle.s360_machine.specs.declared.row.PackedRow.TheVariants.{Nothing, Psw, Register, Bytes, More}
use Rattle.s360_store.specs.declared.items.Item.{Item}
use Rattle.s360_store.specs.declared.items.Item.TheVariants.{Single, Run}
use Rattle.s360_store.specs.declared.place.Cell.{Cell}
use Rattle.s360_store.specs.declared.place.Place.{Place}
use Rattle.s360_store.specs.declared.place.Place.TheVariants.{Byte}
use Rattle.s360_store.specs.Cells.{AllFit, byte_cells}
use Rattle.s360_store.specs.CoreChanges.{CoreChange, cells_of_change, psw_cell}
use Rattle.s360_store.specs.Items.{Appended, AreItems, bytes_of_items, cells_of_items}
use Rattle.s360_store.proofs.ByteCellLemmas.{length-byte_cells}
use Rattle.s360_machine.specs.declared.beside.Beside.{Beside}
use Rattle.s360_machine.specs.Beside.{IsNothing}
use Rattle.s360_machine.specs.Change.{CanSwap, Change, after_swap, change_after_swap}
use Rattle.s360_machine.specs.Machine.{Whole}
use Rattle.s360_machine.specs.Changes.{change_of, change_of_core, change_with}
use Rattle.s360_machine.specs.Packed.{ArePacked, HasBefore, HasOwn, IsAppended, IsSwapOf, byte_values, bytes_of_changes, value_if_byte, changes_of_rows, lists, IsEnd, IsWithin, Lists, change_of_row, end_before, joined, lists_from, lists_to, newest, older, others, own, unpacked}
use Rattle.s360_machine.specs.Rows.{HasNoMore, HasSameCounts, IsOver, IsRowOf, beside_of_row, bytes_of_row, cells_of_row, items_of_row}
use Rattle.s360_machine.proofs.SwapLemmas.{IsSwap, IsSwap-from, same-change}

-- the end of a list that had more put to it
newest-joined : {X : Type 0} (n : ℕ) (xs ys : List X) → length ys ≡ n → newest n (xs ++ ys) ≡ ys
newest-joined n xs ys l =
    let count : length (xs ++ ys) - n ≡ length xs = omega (arith, l, length-append xs ys)
    in ap (λ k. drop k (xs ++ ys)) count ∙ drop_at xs ys (length xs) refl

older-joined : {X : Type 0} (n : ℕ) (xs ys : List X) → length ys ≡ n → older n (xs ++ ys) ≡ xs
older-joined n xs ys l =
    let count : length (xs ++ ys) - n ≡ length xs = omega (arith, l, length-append xs ys)
    in ap (λ k. take k (xs ++ ys)) count ∙ take_at xs ys (length xs) refl

older-newest : {X : Type 0} (n : ℕ) (xs : List X) → older n xs ++ newest n xs ≡ xs
older-newest n xs = take-append-drop (length xs - n) xs

pub length-newest : {X : Type 0} (n : ℕ) (xs : List X) → n ≤ length xs → length (newest n xs) ≡ n
length-newest n xs l = omega (arith, l, length-drop (length xs - n) xs)

-- a row more
pub record IsOwn (r : PackedRow) (ms : Lists) : Type 0 where
  pub items : length ms.items ≡ items_of_row r
  pub bytes : length ms.bytes ≡ bytes_of_row r
  pub beside : length ms.beside ≡ beside_of_row r

pub same-lists : (ls ms : Lists) → ls.items ≡ ms.items → ls.bytes ≡ ms.bytes → ls.beside ≡ ms.beside → ls ≡ ms
same-lists ls ms a b c =
    ap (λ k. record ls { items = k }) a ∙ ap (λ k. record ls { items = ms.items; bytes = k }) b ∙ ap (λ k. record ms { beside = k }) c

own-joined : (r : PackedRow) (ls ms : Lists) → IsOwn r ms → own r (joined ls ms) ≡ ms
own-joined r ls ms o =
    same-lists (own r (joined ls ms)) ms (newest-joined (items_of_row r) ls.items ms.items o.items) (newest-joined (bytes_of_row r) ls.bytes ms.bytes o.bytes)
    (newest-joined (beside_of_row r) ls.beside ms.beside o.beside)

others-joined : (r : PackedRow) (ls ms : Lists) → IsOwn r ms → others r (joined ls ms) ≡ ls
others-joined r ls ms o =
    same-lists (others r (joined ls ms)) ls (older-joined (items_of_row r) ls.items ms.items o.items) (older-joined (bytes_of_row r) ls.bytes ms.bytes o.bytes)
    (older-joined (beside_of_row r) ls.beside ms.beside o.beside)

own-counts : (r : PackedRow) (ls : Lists) → HasOwn r ls → IsOwn r (own r ls)
own-counts r ls h = record {
  items = length-newest (items_of_row r) ls.items h.0;
  bytes = length-newest (bytes_of_row r) ls.bytes h.1;
  beside = length-newest (beside_of_row r) ls.beside h.2;
}

pub unpacked-joined : (r : PackedRow) (rs : List PackedRow) (ls ms : Lists) → IsOwn r ms → unpacked (r ∷ rs) (joined ls ms) ≡ change_of_row r ms ∷ unpacked rs ls
unpacked-joined r rs ls ms o =
    ap (λ k. change_of_row r k ∷ unpacked rs (others r (joined ls ms))) (own-joined r ls ms o) ∙ ap (λ k. change_of_row r ms ∷ unpacked rs k) (others-joined r ls ms o)

pub ArePacked-joined : (r : PackedRow) (rs : List PackedRow) (ls ms : Lists) → IsOwn r ms → IsOver r ms.items ms.bytes → ArePacked rs ls → ArePacked (r ∷ rs) (joined ls ms)
ArePacked-joined r rs ls ms o over h = (
  (omega (arith, o.items, length-append ls.items ms.items), omega (arith, o.bytes, length-append ls.bytes ms.bytes), omega (arith, o.beside, length-append ls.beside ms.beside)),
  subst (λ k. IsOver r k.items k.bytes) (sym (own-joined r ls ms o)) over,
  subst (λ k. ArePacked rs k) (sym (others-joined r ls ms o)) h,
)

-- the end before the last of the changes
older-take : {X : Type 0} (k n : ℕ) (xs : List X) → n ≤ length xs → older k (take n xs) ≡ take (n - k) xs
older-take k n xs l =
    let count : length (take n xs) ≡ n = length-take-le n xs l
    in rw count (take-take (n - k) n xs (omega arith))

newest-take : {X : Type 0} (k n : ℕ) (xs : List X) → k ≤ n → n ≤ length xs → newest k (take n xs) ++ drop n xs ≡ drop (n - k) xs
newest-take k n xs m l =
    let count : length (take n xs) ≡ n = length-take-le n xs l
    in rw count (sym (drop-append-le (n - k) (take n xs) (drop n xs) (omega (arith, count))) ∙ ap (λ l. drop (n - k) l) (take-append-drop n xs))

others-to : (r : PackedRow) (rows : List PackedRow) (ls : Lists) (e : End) → IsWithin rows ls e → others r (lists_to e ls) ≡ lists_to (end_before e r) ls
others-to r rows ls e w =
    same-lists (others r (lists_to e ls)) (lists_to (end_before e r) ls) (older-take (items_of_row r) e.items ls.items w.items) (older-take (bytes_of_row r) e.bytes ls.bytes w.bytes)
    (older-take (beside_of_row r) e.beside ls.beside w.beside)

own-from : (r : PackedRow) (rows : List PackedRow) (ls : Lists) (e : End) → IsWithin rows ls e → HasBefore e r → joined (own r (lists_to e ls)) (lists_from e ls) ≡ lists_from (end_before e r) ls
own-from r rows ls e w h =
    same-lists (joined (own r (lists_to e ls)) (lists_from e ls)) (lists_from (end_before e r) ls) (newest-take (items_of_row r) e.items ls.items h.items w.items)
    (newest-take (bytes_of_row r) e.bytes ls.bytes h.bytes w.bytes) (newest-take (beside_of_row r) e.beside ls.beside h.beside w.beside)

joined-twice : (ls ms ns : Lists) → joined (joined ls ms) ns ≡ joined ls (joined ms ns)
joined-twice ls ms ns =
    same-lists (joined (joined ls ms) ns) (joined ls (joined ms ns)) (append_assoc ls.items ms.items ns.items) (append_assoc ls.bytes ms.bytes ns.bytes) (append_assoc ls.beside ms.beside ns.beside)

-- the last of the first rows
abbrev pub last_row : List PackedRow → End → PackedRow → Type 0
last_row rows e r = take e.rows rows ≡ take (e.rows - 1) rows ++ r ∷ []

pub last-row : (rows : List PackedRow) (e : End) (r : PackedRow) → 0 < e.rows → e.rows ≤ length rows → r ≡ get_or rows (e.rows - 1) r → last_row rows e r
last-row rows e r some within is =
    let on : e.rows - 1 + 1 ≡ e.rows = omega (arith, some)
    in ap (λ n. take n rows) (sym on) ∙ take_more rows (e.rows - 1) r (omega (arith, some, within)) ∙ ap (λ x. take (e.rows - 1) rows ++ x ∷ []) (sym is)

drop-last : (rows : List PackedRow) (e : End) (r : PackedRow) → last_row rows e r → 0 < e.rows → e.rows ≤ length rows → drop (e.rows - 1) rows ≡ r ∷ drop e.rows rows
drop-last rows e r h some within =
    let front : take e.rows rows ++ drop e.rows rows ≡ rows = take-append-drop e.rows rows
    in let count : length (take (e.rows - 1) rows) ≡ e.rows - 1 = length-take-le (e.rows - 1) rows (omega (arith, within))
    in let parts : take (e.rows - 1) rows ++ r ∷ drop e.rows rows ≡ rows = sym (append_assoc (take (e.rows - 1) rows) (r ∷ []) (drop e.rows rows)) ∙ ap (λ l. l ++ drop e.rows rows) (sym h) ∙ front
    in ap (λ l. drop (e.rows - 1) l) (sym parts) ∙ drop_at (take (e.rows - 1) rows) (r ∷ drop e.rows rows) (e.rows - 1) count

-- a row is taken from the rest
take-further : {X : Type 0} (n : ℕ) (xs ys : List X) (y : X) → drop n xs ≡ y ∷ ys → take (n + 1) xs ≡ take n xs ++ y ∷ []
take-further zero [] ys y h = absurd (cc)
take-further zero (x ∷ xs) ys y h = let same : x ≡ y = cc in ap (λ z. z ∷ []) same
take-further (suc n) [] ys y h = absurd (cc)
take-further (suc n) (x ∷ xs) ys y h =
    let on : suc n + 1 ≡ suc (n + 1) = omega arith in ap (λ k. take k (x ∷ xs)) on ∙ ap (λ l. x ∷ l) (take-further n xs ys y h)

drop-further : {X : Type 0} (n : ℕ) (xs ys : List X) (y : X) → drop n xs ≡ y ∷ ys → drop (n + 1) xs ≡ ys
drop-further n xs ys y h = sym (drop-drop 1 n xs) ∙ ap (λ l. drop 1 l) h

before-has : (rows : List PackedRow) (ls : Lists) (e : End) (r : PackedRow) → IsEnd rows ls e → 0 < e.rows → HasOwn r (lists_to e ls) → HasBefore e r
before-has rows ls e r h some own = record {
  rows = some;
  items = omega (arith, own.0, length-take-le e.items ls.items h.within.items);
  bytes = omega (arith, own.1, length-take-le e.bytes ls.bytes h.within.bytes);
  beside = omega (arith, own.2, length-take-le e.beside ls.beside h.within.beside);
}

reverse-cons : {X : Type 0} (x : X) (xs : List X) → reverse (x ∷ xs) ≡ reverse xs ++ x ∷ []
reverse-cons x xs = reverse-append (x ∷ []) xs

-- what stands there of the last of the first rows
pub record IsLast (rows : List PackedRow) (ls : Lists) (e : End) (r : PackedRow) : Type 0 where
  pub has : HasBefore e r
  pub own_is : IsOwn r (own r (lists_to e ls))
  pub over : IsOver r (own r (lists_to e ls)).items (own r (lists_to e ls)).bytes
  pub change : drop (length rows - e.rows) (unpacked (reverse rows) ls) ≡ change_of_row r (own r (lists_to e ls)) ∷ unpacked (reverse (take (e.rows - 1) rows)) (lists_to (end_before e r) ls)
  pub before : IsEnd rows ls (end_before e r)

pub IsEnd-before : (rows : List PackedRow) (ls : Lists) (e : End) (r : PackedRow) → IsEnd rows ls e → 0 < e.rows → last_row rows e r → IsLast rows ls e r
IsEnd-before rows ls e r h some last =
    let newest_first : reverse (take e.rows rows) ≡ r ∷ reverse (take (e.rows - 1) rows) = ap (λ (l : List PackedRow). reverse l) last ∙ reverse-append (take (e.rows - 1) rows) (r ∷ [])
    in let packed : ArePacked (r ∷ reverse (take (e.rows - 1) rows)) (lists_to e ls) = rw newest_first at h.packed
    in let has : HasBefore e r = before-has rows ls e r h some packed.0
    in let counts : IsOwn r (own r (lists_to e ls)) = own-counts r (lists_to e ls) packed.0
    in let before : others r (lists_to e ls) ≡ lists_to (end_before e r) ls = others-to r rows ls e h.within
    in let change : drop (length rows - e.rows) (unpacked (reverse rows) ls) ≡ change_of_row r (own r (lists_to e ls)) ∷ unpacked (reverse (take (e.rows - 1) rows)) (lists_to (end_before e r) ls)
    = sym h.changes ∙ rw (newest_first, before) refl
    in let further : length rows - (e.rows - 1) ≡ length rows - e.rows + 1 = omega (arith, some, h.within.rows)
    in let rest : drop (e.rows - 1) rows ≡ r ∷ drop e.rows rows = drop-last rows e r last some h.within.rows
    in let turned : (rs : List PackedRow) → reverse (drop (e.rows - 1) rows) ++ rs ≡ reverse (drop e.rows rows) ++ r ∷ rs
    = λ rs. ap (λ (l : List PackedRow). reverse l ++ rs) rest ∙ ap (λ (l : List PackedRow). l ++ rs) (reverse-cons r (drop e.rows rows)) ∙ append_assoc (reverse (drop e.rows rows)) (r ∷ []) rs
    in let from : (ms : Lists) → joined ms (lists_from (end_before e r) ls) ≡ joined (joined ms (own r (lists_to e ls))) (lists_from e ls)
    = λ ms. ap (λ l. joined ms l) (sym (own-from r rows ls e h.within has)) ∙ sym (joined-twice ms (own r (lists_to e ls)) (lists_from e ls))
    in record {
      has = has;
      own_is = counts;
      over = packed.1;
      change = change;
      before = record {
        within = record {
          rows = omega (arith, h.within.rows);
          items = omega (arith, h.within.items);
          bytes = omega (arith, h.within.bytes);
          beside = omega (arith, h.within.beside);
        };
        packed = rw before at packed.2;
        changes = sym (ap (λ k. drop k (unpacked (reverse rows) ls)) further ∙ drop-further (length rows - e.rows) (unpacked (reverse rows) ls) _ _ change);
        rest = λ rs ms.
            rw (turned rs, from ms, further, take-further (length rows - e.rows) (unpacked (reverse rows) ls) _ _ change)
            (h.rest (r ∷ rs) (joined ms (own r (lists_to e ls)))
            ∙ ap (λ l. take (length rows - e.rows) (unpacked (reverse rows) ls) ++ l) (unpacked-joined r rs ms (own r (lists_to e ls)) counts)
            ∙ sym (append_assoc (take (length rows - e.rows) (unpacked (reverse rows) ls)) (change_of_row r (own r (lists_to e ls)) ∷ []) (unpacked rs ms)));
        rest_packed = λ rs ms k. rw (turned rs, from ms) (h.rest_packed (r ∷ rs) (joined ms (own r (lists_to e ls))) (ArePacked-joined r rs ms (own r (lists_to e ls)) counts packed.1 k));
      };
    }

-- the first changes
length-unpacked : (rs : List PackedRow) (ls : Lists) → length (unpacked rs ls) ≡ length rs
length-unpacked [] ls = refl
length-unpacked (r ∷ rs) ls = ap suc (length-unpacked rs (others r ls))

pub length-changes : (rows : List PackedRow) (ls : Lists) → length (changes_of_rows rows ls) ≡ length rows
length-changes rows ls = length-reverse (unpacked (reverse rows) ls) ∙ length-unpacked (reverse rows) ls ∙ length-reverse rows

reverse-parts : {X : Type 0} (n : ℕ) (xs : List X) → reverse xs ≡ reverse (drop n xs) ++ reverse (take n xs)
reverse-parts n xs = ap (λ l. reverse l) (sym (take-append-drop n xs)) ∙ reverse-append (take n xs) (drop n xs)

length-behind : {X : Type 0} (n : ℕ) (xs : List X) → length (reverse (drop n xs)) ≡ length xs - n
length-behind n xs = length-reverse (drop n xs) ∙ length-drop n xs

pub first-changes : (rows : List PackedRow) (ls : Lists) (e : End) → IsEnd rows ls e → changes_of_rows (take e.rows rows) (lists_to e ls) ≡ take e.rows (changes_of_rows rows ls)
first-changes rows ls e h =
    let all : List Change = unpacked (reverse rows) ls
    in let n : ℕ = length rows - e.rows
    in let many : length all ≡ length rows = length-unpacked (reverse rows) ls ∙ length-reverse rows
    in let count : length (reverse (drop n all)) ≡ e.rows = length-behind n all ∙ omega (arith, many, h.within.rows)
    in ap (λ l. reverse l) h.changes ∙ sym (take_at (reverse (drop n all)) (reverse (take n all)) e.rows count) ∙ ap (λ l. take e.rows l) (sym (reverse-parts n all))

-- another change in place of the last of the first ones
set-there : {X : Type 0} (xs ys : List X) (x y : X) (n : ℕ) → length xs ≡ n → set (xs ++ x ∷ ys) n y ≡ xs ++ y ∷ ys
set-there [] ys x y zero l = refl
set-there [] ys x y (suc n) l = absurd (omega (arith, l))
set-there (z ∷ xs) ys x y zero l = absurd (omega (arith, l))
set-there (z ∷ xs) ys x y (suc n) l = ap (λ k. z ∷ k) (set-there xs ys x y n (omega (arith, l)))

get-there : {X : Type 0} (xs ys : List X) (x : X) (n : ℕ) → length xs ≡ n → slice_get (xs ++ x ∷ ys) n ≡ Some x
get-there [] ys x zero l = refl
get-there [] ys x (suc n) l = absurd (omega (arith, l))
get-there (z ∷ xs) ys x zero l = absurd (omega (arith, l))
get-there (z ∷ xs) ys x (suc n) l = get-there xs ys x n (omega (arith, l))

-- lists in which a row has other parts of its own
abbrev pub replaced : Lists → End → PackedRow → Lists → Lists
replaced ls e r ms = joined (joined (lists_to (end_before e r) ls) ms) (lists_from e ls)

rows-replaced : (rows : List PackedRow) (e : End) (r s : PackedRow) → last_row rows e r → 0 < e.rows → e.rows ≤ length rows
    → reverse (set rows (e.rows - 1) s) ≡ reverse (drop e.rows rows) ++ s ∷ reverse (take (e.rows - 1) rows)
rows-replaced rows e r s last some within =
    let front : List PackedRow = take (e.rows - 1) rows
    in let parts : rows ≡ front ++ r ∷ drop e.rows rows = sym (take-append-drop (e.rows - 1) rows) ∙ ap (λ (l : List PackedRow). front ++ l) (drop-last rows e r last some within)
    in let count : length front ≡ e.rows - 1 = length-take-le (e.rows - 1) rows (omega (arith, within))
    in let new : set rows (e.rows - 1) s ≡ front ++ s ∷ drop e.rows rows = ap (λ (l : List PackedRow). set l (e.rows - 1) s) parts ∙ set-there front (drop e.rows rows) r s (e.rows - 1) count
    in ap (λ (l : List PackedRow). reverse l) new ∙ reverse-append front (s ∷ drop e.rows rows) ∙ ap (λ (l : List PackedRow). l ++ reverse front) (reverse-cons s (drop e.rows rows))
    ∙ append_assoc (reverse (drop e.rows rows)) (s ∷ []) (reverse front)

pub ArePacked-replaced : (rows : List PackedRow) (ls ms : Lists) (e : End) (r s : PackedRow) → IsEnd rows ls e → last_row rows e r → IsLast rows ls e r → IsOwn s ms → IsOver s ms.items ms.bytes
    → ArePacked (reverse (set rows (e.rows - 1) s)) (replaced ls e r ms)
ArePacked-replaced rows ls ms e r s h last k own_is over =
    rw (rows-replaced rows e r s last k.has.rows h.within.rows)
    (h.rest_packed (s ∷ reverse (take (e.rows - 1) rows)) (joined (lists_to (end_before e r) ls) ms)
    (ArePacked-joined s (reverse (take (e.rows - 1) rows)) (lists_to (end_before e r) ls) ms own_is over k.before.packed))

pub changes-replaced : (rows : List PackedRow) (ls ms : Lists) (e : End) (r s : PackedRow) → IsEnd rows ls e → last_row rows e r → IsLast rows ls e r → IsOwn s ms
    → changes_of_rows (set rows (e.rows - 1) s) (replaced ls e r ms) ≡ set (changes_of_rows rows ls) (e.rows - 1) (change_of_row s ms)
changes-replaced rows ls ms e r s h last k own_is =
    let all : List Change = unpacked (reverse rows) ls
    in let n : ℕ = length rows - e.rows
    in let x : Change = change_of_row r (own r (lists_to e ls))
    in let y : Change = change_of_row s ms
    in let rest : List Change = unpacked (reverse (take (e.rows - 1) rows)) (lists_to (end_before e r) ls)
    in let many : length all ≡ length rows = length-unpacked (reverse rows) ls ∙ length-reverse rows
    in let new : unpacked (reverse (set rows (e.rows - 1) s)) (replaced ls e r ms) ≡ take n all ++ y ∷ rest
    = rw (rows-replaced rows e r s last k.has.rows h.within.rows)
    (h.rest (s ∷ reverse (take (e.rows - 1) rows)) (joined (lists_to (end_before e r) ls) ms)
    ∙ ap (λ l. take n all ++ l) (unpacked-joined s (reverse (take (e.rows - 1) rows)) (lists_to (end_before e r) ls) ms own_is))
    in let turned : (z : Change) → reverse (take n all ++ z ∷ rest) ≡ reverse rest ++ z ∷ reverse (take n all)
    = λ z. reverse-append (take n all) (z ∷ rest) ∙ ap (λ l. l ++ reverse (take n all)) (reverse-cons z rest) ∙ append_assoc (reverse rest) (z ∷ []) (reverse (take n all))
    in let old : reverse all ≡ reverse rest ++ x ∷ reverse (take n all) = ap (λ l. reverse l) (sym (take-append-drop n all) ∙ ap (λ l. take n all ++ l) k.change) ∙ turned x
    in let count : length (reverse rest) ≡ e.rows - 1
    = length-reverse rest ∙ length-unpacked (reverse (take (e.rows - 1) rows)) (lists_to (end_before e r) ls) ∙ length-reverse (take (e.rows - 1) rows)
    ∙ length-take-le (e.rows - 1) rows (omega (arith, h.within.rows))
    in ap (λ l. reverse l) new ∙ turned y ∙ sym (ap (λ l. set l (e.rows - 1) y) old ∙ set-there (reverse rest) (reverse (take n all)) x y (e.rows - 1) count)

-- the last of the first changes
pub change-there : (rows : List PackedRow) (ls : Lists) (e : End) (r : PackedRow) → IsEnd rows ls e → last_row rows e r → IsLast rows ls e r
    → slice_get (changes_of_rows rows ls) (e.rows - 1) ≡ Some (change_of_row r (own r (lists_to e ls)))
change-there rows ls e r h last k =
    let all : List Change = unpacked (reverse rows) ls
    in let n : ℕ = length rows - e.rows
    in let x : Change = change_of_row r (own r (lists_to e ls))
    in let rest : List Change = unpacked (reverse (take (e.rows - 1) rows)) (lists_to (end_before e r) ls)
    in let old : reverse all ≡ reverse rest ++ x ∷ reverse (take n all)
    = ap (λ l. reverse l) (sym (take-append-drop n all) ∙ ap (λ l. take n all ++ l) k.change) ∙ reverse-append (take n all) (x ∷ rest)
    ∙ ap (λ l. l ++ reverse (take n all)) (reverse-cons x rest) ∙ append_assoc (reverse rest) (x ∷ []) (reverse (take n all))
    in let count : length (reverse rest) ≡ e.rows - 1
    = length-reverse rest ∙ length-unpacked (reverse (take (e.rows - 1) rows)) (lists_to (end_before e r) ls) ∙ length-reverse (take (e.rows - 1) rows)
    ∙ length-take-le (e.rows - 1) rows (omega (arith, h.within.rows))
    in ap (λ l. slice_get l (e.rows - 1)) old ∙ get-there (reverse rest) (reverse (take n all)) x (e.rows - 1) count

-- items are no more than their cells
pub items-few : (is : List Item) (bs : List ℕ) → AreItems is → bytes_of_items is ≡ length bs → length is ≤ length (cells_of_items is bs)
items-few [] bs h e = omega arith
items-few (Single c ∷ is) bs h e = omega (arith, items-few is bs h.1 (omega (arith, e)))
items-few (Run a n ∷ is) bs h e =
    let front : length (take n bs) ≡ n = length-take-le n bs (omega (arith, e))
    in omega (arith, items-few is (drop n bs) h.1 (omega (arith, e, length-drop n bs)), length-append (byte_cells a (take n bs)) (cells_of_items is (drop n bs)), length-byte_cells a (take n bs), front, h.0.0)

pub bytes-few : (is : List Item) (bs : List ℕ) → bytes_of_items is ≡ length bs → length bs ≤ length (cells_of_items is bs)
bytes-few [] bs e = omega (arith, e)
bytes-few (Single c ∷ is) bs e = omega (arith, bytes-few is bs (omega (arith, e)))
bytes-few (Run a n ∷ is) bs e =
    let front : length (take n bs) ≡ n = length-take-le n bs (omega (arith, e))
    in omega (arith, e, bytes-few is (drop n bs) (omega (arith, e, length-drop n bs)), length-append (byte_cells a (take n bs)) (cells_of_items is (drop n bs)), length-byte_cells a (take n bs), front, length-drop n bs)

-- a row that has all but its bytes within itself
within-items : (r : PackedRow) → HasNoMore r → items_of_row r ≡ 0
within-items (More beside items bytes count) h = absurd h
within-items r h = refl

pub within-beside : (r : PackedRow) → HasNoMore r → beside_of_row r ≡ 0
within-beside (More beside items bytes count) h = absurd h
within-beside r h = refl

-- a change that has all but its bytes within its row is one change more
within-bytes : (row : PackedRow) (bs : List ℕ) → HasNoMore row → IsOver row [] bs → length bs ≡ bytes_of_row row
within-bytes (Bytes count address psw) bs h o = o.1
within-bytes (More beside items bytes count) bs h o = absurd h
within-bytes row bs h o = ap length o.1

pub appended-row : (old : Lists) (new : List ℕ) (cells : List Cell) (b : Beside) (row : PackedRow) (bytes : List ℕ) → IsRowOf cells row bytes → IsNothing b → new ≡ old.bytes ++ bytes
    → IsAppended old (lists old.items new old.beside) row (change_of cells b)
appended-row old new cells b row bytes h nothing e = record {
  own_lists = lists [] bytes [];
  lists_are = same-lists (lists old.items new old.beside) (joined old (lists [] bytes [])) (sym (append-nil old.items)) e (sym (append-nil old.beside));
  items = sym (within-items row h.within);
  bytes = within-bytes row bytes h.within h.over;
  beside = sym (within-beside row h.within);
  over = h.over;
  change = ap change_of_core h.cells_are ∙ same-change (change_of_core cells) (change_of cells b) refl (sym nothing.control) (sym nothing.units) (sym nothing.media);
}

-- and one of more
pub appended-full : (oi ni : List Item) (ob nb : List ℕ) (ol nl : List Beside) (cells : List Cell) (b : Beside) (done : Bool) (items bytes count : ℕ)
    → Appended oi ni ob nb cells → AllFit true cells → (done ≡ true → nl ≡ ol ++ b ∷ []) → (done ≡ false → (nl ≡ ol) × IsNothing b)
    → items ≡ length ni - length oi → bytes ≡ length nb - length ob → count ≡ length cells
    → IsAppended (lists oi ob ol) (lists ni nb nl) (More done items bytes count) (change_of cells b)
appended-full oi ni ob nb ol nl cells b true items bytes count a fit some none ei eb ec =
    let own_is : Lists = lists a.items a.bytes (b ∷ [])
    in record {
      own_lists = own_is;
      lists_are = same-lists (lists ni nb nl) (joined (lists oi ob ol) own_is) a.items_are a.bytes_are (some refl);
      items = sym (ei ∙ omega (arith, ap length a.items_are, length-append oi a.items));
      bytes = sym (eb ∙ omega (arith, ap length a.bytes_are, length-append ob a.bytes));
      beside = refl;
      over = (
        sym (ei ∙ omega (arith, ap length a.items_are, length-append oi a.items)),
        sym (eb ∙ omega (arith, ap length a.bytes_are, length-append ob a.bytes)),
        ap length a.cells_are ∙ sym ec,
        record { whole = a.whole; all = a.all; fit = subst (AllFit true) (sym a.cells_are) fit; few = subst (λ cs. length cs ≤ 1000001) (sym a.cells_are) a.few },
      );
      change = ap (λ cs. change_of cs b) a.cells_are;
    }
appended-full oi ni ob nb ol nl cells b false items bytes count a fit some none ei eb ec =
    let own_is : Lists = lists a.items a.bytes []
    in let nothing : IsNothing b = (none refl).1
    in record {
      own_lists = own_is;
      lists_are = same-lists (lists ni nb nl) (joined (lists oi ob ol) own_is) a.items_are a.bytes_are ((none refl).0 ∙ sym (append-nil ol));
      items = sym (ei ∙ omega (arith, ap length a.items_are, length-append oi a.items));
      bytes = sym (eb ∙ omega (arith, ap length a.bytes_are, length-append ob a.bytes));
      beside = refl;
      over = (
        sym (ei ∙ omega (arith, ap length a.items_are, length-append oi a.items)),
        sym (eb ∙ omega (arith, ap length a.bytes_are, length-append ob a.bytes)),
        ap length a.cells_are ∙ sym ec,
        record { whole = a.whole; all = a.all; fit = subst (AllFit true) (sym a.cells_are) fit; few = subst (λ cs. length cs ≤ 1000001) (sym a.cells_are) a.few },
      );
      change = ap change_of_core a.cells_are ∙ same-change (change_of_core cells) (change_of cells b) refl (sym nothing.control) (sym nothing.units) (sym nothing.media);
    }

-- what is appended is one change more
pub packed-appended : (rows : List PackedRow) (old new : Lists) (r : PackedRow) (x : Change) → ArePacked (reverse rows) old → IsAppended old new r x → ArePacked (reverse (rows ++ r ∷ [])) new
packed-appended rows old new r x h a =
    subst (λ (rs : List PackedRow). ArePacked rs new) (sym (reverse-append rows (r ∷ [])))
    (subst (λ ls. ArePacked (r ∷ reverse rows) ls) (sym a.lists_are)
    (ArePacked-joined r (reverse rows) old a.own_lists (record { items = a.items; bytes = a.bytes; beside = a.beside }) a.over h))

pub changes-appended : (rows : List PackedRow) (old new : Lists) (r : PackedRow) (x : Change) → IsAppended old new r x → changes_of_rows (rows ++ r ∷ []) new ≡ changes_of_rows rows old ++ x ∷ []
changes-appended rows old new r x a =
    let newest_first : unpacked (reverse (rows ++ r ∷ [])) new ≡ x ∷ unpacked (reverse rows) old
    = ap (λ (rs : List PackedRow). unpacked rs new) (reverse-append rows (r ∷ [])) ∙ ap (λ ls. unpacked (r ∷ reverse rows) ls) a.lists_are
    ∙ unpacked-joined r (reverse rows) old a.own_lists (record { items = a.items; bytes = a.bytes; beside = a.beside }) ∙ ap (λ y. y ∷ unpacked (reverse rows) old) a.change
    in ap (λ xs. reverse xs) newest_first ∙ reverse-cons x (unpacked (reverse rows) old)

-- what the lists have of the last of the first changes, as slices
slice-own : {X : Type 0} (n e : ℕ) (xs : List X) → n ≤ e → e ≤ length xs → take (e - (e - n)) (drop (e - n) xs) ≡ newest n (take e xs)
slice-own n e xs m l =
    let count : length (take e xs) ≡ e = length-take-le e xs l
    in let back : e - (e - n) ≡ n = omega (arith, m)
    in let sum : e - n + n ≡ e = omega (arith, m)
    in ap (λ k. take k (drop (e - n) xs)) back ∙ sym (drop-take (e - n) n xs) ∙ ap (λ k. drop (e - n) (take k xs)) sum ∙ ap (λ k. drop (k - n) (take e xs)) (sym count)

abbrev pub slices : Lists → End → End → Lists
slices ls s e = record {
  items = take (e.items - s.items) (drop s.items ls.items);
  bytes = take (e.bytes - s.bytes) (drop s.bytes ls.bytes);
  beside = take (e.beside - s.beside) (drop s.beside ls.beside);
}

pub slices-own : (rows : List PackedRow) (ls : Lists) (e : End) (r : PackedRow) → IsWithin rows ls e → HasBefore e r → slices ls (end_before e r) e ≡ own r (lists_to e ls)
slices-own rows ls e r w h =
    same-lists (slices ls (end_before e r) e) (own r (lists_to e ls)) (slice-own (items_of_row r) e.items ls.items h.items w.items) (slice-own (bytes_of_row r) e.bytes ls.bytes h.bytes w.bytes)
    (slice-own (beside_of_row r) e.beside ls.beside h.beside w.beside)

pub record There (rows : List PackedRow) (ls : Lists) (r : PackedRow) (ms : Lists) (number : ℕ) : Type 0 where
  pub over : IsOver r ms.items ms.bytes
  pub beside : length ms.beside ≡ beside_of_row r
  pub change : slice_get (changes_of_rows rows ls) (number - 1) ≡ Some (change_of_row r ms)

pub own-there : (rows : List PackedRow) (ls ms : Lists) (e s : End) (r : PackedRow) (number : ℕ) → IsEnd rows ls e → e.rows ≡ number → 0 < number → r ≡ get_or rows (e.rows - 1) r
    → s ≡ end_before e r → ms ≡ ls → There rows ls r (slices ms s e) number
own-there rows ls ms e s r number h n some is before same =
    let more : 0 < e.rows = omega (arith, n, some)
    in let last : last_row rows e r = last-row rows e r more h.within.rows is
    in let here : IsLast rows ls e r = IsEnd-before rows ls e r h more last
    in let parts : slices ms s e ≡ own r (lists_to e ls) = ap (λ k. slices k s e) same ∙ ap (λ k. slices ls k e) before ∙ slices-own rows ls e r h.within here.has
    in record {
      over = subst (λ k. IsOver r k.items k.bytes) (sym parts) here.over;
      beside = ap (λ k. length k.beside) parts ∙ here.own_is.beside;
      change = ap (λ k. slice_get (changes_of_rows rows ls) (k - 1)) (sym n) ∙ change-there rows ls e r h last here ∙ ap (λ k. Some (change_of_row r k)) (sym parts);
    }

-- a list in which other items stand in place of some
abbrev pub written : {X : Type 0} → ℕ → ℕ → List X → List X → List X
written s k old new = take s old ++ (new ++ drop k (drop s old))

-- what an exchange leaves in a list
pub record Patched {X : Type 0} (n s e : ℕ) (lent old new after : List X) : Type 0 where
  pub len : n ≡ length old
  pub same : lent ≡ old
  pub as_many : length new ≡ length (take (e - s) (drop s lent))
  pub is : after ≡ take n (written s (e - s) lent new ++ drop (length (written s (e - s) lent new)) old)

written-whole : {X : Type 0} (n s k : ℕ) (old new : List X) → n ≡ length old → s + k ≤ length old → length new ≡ k
    → take n (written s k old new ++ drop (length (written s k old new)) old) ≡ (take s old ++ new) ++ drop (s + k) old
written-whole n s k old new e within count =
    let all : List _ = written s k old new
    in let front : length (take s old) ≡ s = length-take-le s old (omega (arith, within))
    in let many : length all ≡ n = omega (arith, length-append (take s old) (new ++ drop k (drop s old)), length-append new (drop k (drop s old)), length-drop k (drop s old), length-drop s old, front, count, within, e)
    in take_at all (drop (length all) old) n many ∙ sym (append_assoc (take s old) new (drop k (drop s old))) ∙ ap (λ l. (take s old ++ new) ++ l) (drop-drop k s old)

patched : {X : Type 0} (n k e : ℕ) (lent old new after : List X) → k ≤ e → e ≤ length old → Patched n (e - k) e lent old new after → after ≡ (take (e - k) old ++ new) ++ drop e old
patched n k e lent old new after m l h =
    let back : e - (e - k) ≡ k = omega (arith, m)
    in let sum : e - k + (e - (e - k)) ≡ e = omega (arith, m)
    in let count : length new ≡ e - (e - k)
    = h.as_many ∙ ap (λ xs. length (take (e - (e - k)) (drop (e - k) xs))) h.same ∙ length-take-le (e - (e - k)) (drop (e - k) old) (omega (arith, length-drop (e - k) old, m, l))
    in h.is ∙ ap (λ xs. take n (written (e - k) (e - (e - k)) xs new ++ drop (length (written (e - k) (e - (e - k)) xs new)) old)) h.same
    ∙ written-whole n (e - k) (e - (e - k)) old new h.len (omega (arith, m, l)) count ∙ ap (λ j. (take (e - k) old ++ new) ++ drop j old) sum

counted : {X : Type 0} (n k e : ℕ) (lent old new after : List X) → k ≤ e → e ≤ length old → Patched n (e - k) e lent old new after → length new ≡ k
counted n k e lent old new after m l h =
    h.as_many ∙ ap (λ xs. length (take (e - (e - k)) (drop (e - k) xs))) h.same ∙ length-take-le (e - (e - k)) (drop (e - k) old) (omega (arith, length-drop (e - k) old, m, l)) ∙ omega (arith, m)

pub record Swapped (rows : List PackedRow) (ls after : Lists) (e : End) (s : PackedRow) (ms : Lists) : Type 0 where
  pub packed : ArePacked (reverse (set rows (e.rows - 1) s)) after
  pub changes : changes_of_rows (set rows (e.rows - 1) s) after ≡ set (changes_of_rows rows ls) (e.rows - 1) (change_of_row s ms)

pub swapped-there : (rows : List PackedRow) (lent ls ms after : Lists) (e b : End) (r s : PackedRow) (n m k : ℕ) → IsEnd rows ls e → 0 < e.rows → r ≡ get_or rows (e.rows - 1) r → b ≡ end_before e r
    → HasSameCounts r s → IsOver s ms.items ms.bytes
    → Patched n b.items e.items lent.items ls.items ms.items after.items → Patched m b.bytes e.bytes lent.bytes ls.bytes ms.bytes after.bytes
    → Patched k b.beside e.beside lent.beside ls.beside ms.beside after.beside → Swapped rows ls after e s ms
swapped-there rows lent ls ms after e b r s n m k h some is before same over pi pb px =
    let last : last_row rows e r = last-row rows e r some h.within.rows is
    in let here : IsLast rows ls e r = IsEnd-before rows ls e r h some last
    in let qi : Patched n (e.items - items_of_row r) e.items lent.items ls.items ms.items after.items = subst (λ (d : End). Patched n d.items e.items lent.items ls.items ms.items after.items) before pi
    in let qb : Patched m (e.bytes - bytes_of_row r) e.bytes lent.bytes ls.bytes ms.bytes after.bytes = subst (λ (d : End). Patched m d.bytes e.bytes lent.bytes ls.bytes ms.bytes after.bytes) before pb
    in let qx : Patched k (e.beside - beside_of_row r) e.beside lent.beside ls.beside ms.beside after.beside = subst (λ (d : End). Patched k d.beside e.beside lent.beside ls.beside ms.beside after.beside) before px
    in let lists_are : after ≡ replaced ls e r ms
    = same-lists after (replaced ls e r ms) (patched n (items_of_row r) e.items lent.items ls.items ms.items after.items here.has.items h.within.items qi)
    (patched m (bytes_of_row r) e.bytes lent.bytes ls.bytes ms.bytes after.bytes here.has.bytes h.within.bytes qb)
    (patched k (beside_of_row r) e.beside lent.beside ls.beside ms.beside after.beside here.has.beside h.within.beside qx)
    in let counts : IsOwn s ms = record {
      items = counted n (items_of_row r) e.items lent.items ls.items ms.items after.items here.has.items h.within.items qi ∙ sym same.items;
      bytes = counted m (bytes_of_row r) e.bytes lent.bytes ls.bytes ms.bytes after.bytes here.has.bytes h.within.bytes qb ∙ sym same.bytes;
      beside = counted k (beside_of_row r) e.beside lent.beside ls.beside ms.beside after.beside here.has.beside h.within.beside qx ∙ sym same.beside;
    }
    in record {
      packed = subst (λ l. ArePacked (reverse (set rows (e.rows - 1) s)) l) (sym lists_are) (ArePacked-replaced rows ls ms e r s h last here counts over);
      changes = ap (λ l. changes_of_rows (set rows (e.rows - 1) s) l) lists_are ∙ changes-replaced rows ls ms e r s h last here counts;
    }

-- an exchange that is done again
pub swap-there : (w v : Whole) (x y : Change) → CanSwap w x → v ≡ after_swap w x → y ≡ change_after_swap w x → AllFit v.core.storage.fetch_protection y.cells → IsSwapOf w x v
swap-there w v x y can ev ey fit =
    let back : IsSwap w x v (change_after_swap w x) = IsSwap-from w x v (change_after_swap w x) can ev refl (subst (λ (z : Change). AllFit v.core.storage.fetch_protection z.cells) ey fit)
    in record { machine = ev; again = back.again; restores_machine = back.whole; restores_change = back.change }

-- one row stands there
pub same-got : (rows : List PackedRow) (n : ℕ) (r s : PackedRow) → n < length rows → r ≡ get_or rows n r → s ≡ get_or rows n s → r ≡ s
same-got [] n r s l a b = absurd (omega (arith, l))
same-got (x ∷ rows) zero r s l a b = a ∙ sym b
same-got (x ∷ rows) (suc n) r s l a b = same-got rows n r s (omega (arith, l)) a b

-- what is so of the last of the changes
pub of-last : (rows : List PackedRow) (ls : Lists) (xs : List Change) (P : Change → Type 0) (y : Change) → changes_of_rows rows ls ≡ xs → slice_get (changes_of_rows rows ls) (length rows - 1) ≡ Some y → P y
    → IfSome (slice_get xs (length xs - 1)) P
of-last rows ls xs P y e h p = rw (← e, length-changes rows ls, h) p

pub at-last : (rows : List PackedRow) (ls : Lists) (xs : List Change) (P : Change → Type 0) (y : Change) → changes_of_rows rows ls ≡ xs → slice_get (changes_of_rows rows ls) (length rows - 1) ≡ Some y
    → IfSome (slice_get xs (length xs - 1)) P → P y
at-last rows ls xs P y e h p = rw h at (rw (length-changes rows ls) at (rw (← e) at p))

-- the last bytes, as they are lent
pub lent-behind : {X : Type 0} (n : ℕ) (lent other xs : List X) → lent ≡ xs → other ≡ xs → take (length lent - (length other - n)) (drop (length other - n) lent) ≡ newest n xs
lent-behind n lent other xs e f = rw (e, f) (take_all (length xs - (length xs - n)) (newest n xs) (omega (arith, length-drop (length xs - n) xs)))

-- bytes behind which others were written
pub written-behind : {X : Type 0} (n start : ℕ) (lent old new : List X) → n ≡ length old → lent ≡ old → start ≤ length old → length new ≡ length (take (length lent - start) (drop start lent))
    → take n (written start (length lent - start) lent new ++ drop (length (written start (length lent - start) lent new)) old) ≡ take start old ++ new
written-behind n start lent old new e same l count =
    let rest : start + (length old - start) ≡ length old = omega (arith, l)
    in let many : length new ≡ length old - start
    = count ∙ ap (λ xs. length (take (length xs - start) (drop start xs))) same ∙ length-take-le (length old - start) (drop start old) (omega (arith, length-drop start old))
    in rw same (written-whole n start (length old - start) old new e (omega (arith, l)) many ∙ ap (λ j. (take start old ++ new) ++ drop j old) rest ∙ ap (λ xs. (take start old ++ new) ++ xs) (drop_all (length old) old (omega arith))
    ∙ append-nil (take start old ++ new))

-- the lists end there of all changes
abbrev pub end_of_all : List PackedRow → Lists → End
end_of_all rows ls = record { rows = length rows; items = length ls.items; bytes = length ls.bytes; beside = length ls.beside }

none-behind : {X : Type 0} (xs : List X) → drop (length xs) xs ≡ []
none-behind xs = drop_all (length xs) xs (omega arith)

all-before : {X : Type 0} (xs : List X) → take (length xs) xs ≡ xs
all-before xs = take_all (length xs) xs (omega arith)

pub IsEnd-all : (rows : List PackedRow) (ls : Lists) → ArePacked (reverse rows) ls → IsEnd rows ls (end_of_all rows ls)
IsEnd-all rows ls h =
    let e : End = end_of_all rows ls
    in let to : lists_to e ls ≡ ls = same-lists (lists_to e ls) ls (all-before ls.items) (all-before ls.bytes) (all-before ls.beside)
    in let from : lists_from e ls ≡ lists [] [] [] = same-lists (lists_from e ls) (lists [] [] []) (none-behind ls.items) (none-behind ls.bytes) (none-behind ls.beside)
    in let none : length rows - length rows ≡ 0 = omega arith
    in let alone : (ms : Lists) → joined ms (lists [] [] []) ≡ ms = λ ms. same-lists (joined ms (lists [] [] [])) ms (append-nil ms.items) (append-nil ms.bytes) (append-nil ms.beside)
    in record {
      within = record { rows = omega arith; items = omega arith; bytes = omega arith; beside = omega arith };
      packed = subst (λ (l : List PackedRow). ArePacked (reverse l) (lists_to e ls)) (sym (all-before rows)) (subst (λ k. ArePacked (reverse rows) k) (sym to) h);
      changes = ap (λ (l : List PackedRow). unpacked (reverse l) (lists_to e ls)) (all-before rows) ∙ ap (λ k. unpacked (reverse rows) k) to ∙ sym (ap (λ n. drop n (unpacked (reverse rows) ls)) none);
      rest = λ rs ms.
          ap (λ (l : List PackedRow). unpacked (reverse l ++ rs) (joined ms (lists_from e ls))) (none-behind rows) ∙ ap (λ k. unpacked rs (joined ms k)) from ∙ ap (λ k. unpacked rs k) (alone ms)
          ∙ sym (ap (λ n. take n (unpacked (reverse rows) ls) ++ unpacked rs ms) none);
      rest_packed = λ rs ms k.
          subst (λ (l : List PackedRow). ArePacked (reverse l ++ rs) (joined ms (lists_from e ls))) (sym (none-behind rows)) (subst (λ j. ArePacked rs (joined ms j)) (sym from) (subst (λ j. ArePacked rs j) (sym (alone ms)) k));
    }

newest-none : {X : Type 0} (n : ℕ) (xs : List X) → n ≡ 0 → newest n (take (length xs) xs) ≡ []
newest-none n xs e = rw (e, all-before xs) (drop_all (length xs - 0) xs (omega arith))

kept-whole : {X : Type 0} (n : ℕ) (xs : List X) → n ≡ 0 → take (length xs - n) xs ≡ xs
kept-whole n xs z = take_all (length xs - n) xs (omega (arith, z))

unchanged : {X : Type 0} (n : ℕ) (xs : List X) → n ≡ 0 → xs ≡ (take (length xs - n) xs ++ []) ++ drop (length xs) xs
unchanged n xs z =
    sym (ap (λ ys. (take (length xs - n) xs ++ []) ++ ys) (none-behind xs) ∙ append-nil (take (length xs - n) xs ++ []) ∙ append-nil (take (length xs - n) xs) ∙ kept-whole n xs z)

-- what the lists have of the last change, whose row is such a one
abbrev pub last_own : PackedRow → Lists → Lists
last_own r ls = lists [] (newest (bytes_of_row r) ls.bytes) []

own-last : (rows : List PackedRow) (ls : Lists) (r : PackedRow) → HasNoMore r → own r (lists_to (end_of_all rows ls) ls) ≡ last_own r ls
own-last rows ls r h =
    same-lists (own r (lists_to (end_of_all rows ls) ls)) (last_own r ls) (newest-none (items_of_row r) ls.items (within-items r h))
    (ap (λ xs. newest (bytes_of_row r) xs) (all-before ls.bytes)) (newest-none (beside_of_row r) ls.beside (within-beside r h))

pub record LastThere (rows : List PackedRow) (ls : Lists) (r : PackedRow) : Type 0 where
  pub has : bytes_of_row r ≤ length ls.bytes
  pub over : IsOver r [] (newest (bytes_of_row r) ls.bytes)
  pub change : slice_get (changes_of_rows rows ls) (length rows - 1) ≡ Some (change_of_core (cells_of_row r [] (newest (bytes_of_row r) ls.bytes)))

pub last-there : (rows : List PackedRow) (ls : Lists) (r : PackedRow) → ArePacked (reverse rows) ls → 0 < length rows → r ≡ get_or rows (length rows - 1) r → HasNoMore r → LastThere rows ls r
last-there rows ls r h some is within =
    let e : End = end_of_all rows ls
    in let end : IsEnd rows ls e = IsEnd-all rows ls h
    in let last : last_row rows e r = last-row rows e r some end.within.rows is
    in let here : IsLast rows ls e r = IsEnd-before rows ls e r end some last
    in let same : own r (lists_to e ls) ≡ last_own r ls = own-last rows ls r within
    in record {
      has = here.has.bytes;
      over = subst (λ k. IsOver r k.items k.bytes) same here.over;
      change = change-there rows ls e r end last here ∙ ap (λ k. Some (change_of_row r k)) same;
    }

pub record LastIs (rows : List PackedRow) (ls : Lists) (r : PackedRow) (number : ℕ) : Type 0 where
  pub count : number ≡ length rows
  pub some : 0 < length rows
  pub is : r ≡ get_or rows (length rows - 1) r
  pub there : LastThere rows ls r

pub some-rows : (rows lent : List PackedRow) (ls : Lists) (xs : List Change) → changes_of_rows rows ls ≡ xs → 0 < length xs → lent ≡ rows → 0 < length lent
some-rows rows lent ls xs e some same = omega (arith, some, ap length (sym e), length-changes rows ls, ap length same)

pub last-is : (rows lent : List PackedRow) (ls : Lists) (xs : List Change) (r : PackedRow) → changes_of_rows rows ls ≡ xs → ArePacked (reverse rows) ls → 0 < length xs → lent ≡ rows
    → r ≡ get_or rows (length lent - 1) r → HasNoMore r → LastIs rows ls r (length lent)
last-is rows lent ls xs r e h some same is within =
    let many : length lent ≡ length rows = ap length same
    in let more : 0 < length rows = omega (arith, many, some-rows rows lent ls xs e some same)
    in let here : r ≡ get_or rows (length rows - 1) r = subst (λ k. r ≡ get_or rows (k - 1) r) many is
    in record { count = many; some = more; is = here; there = last-there rows ls r h more here within }

-- an exchange of it leaves all else
pub swapped-last : (rows : List PackedRow) (ls : Lists) (r s : PackedRow) (bs : List ℕ) → ArePacked (reverse rows) ls → 0 < length rows → r ≡ get_or rows (length rows - 1) r → HasNoMore r
    → HasSameCounts r s → IsOver s [] bs → length bs ≡ bytes_of_row r
    → Swapped rows ls (lists ls.items (older (bytes_of_row r) ls.bytes ++ bs) ls.beside) (end_of_all rows ls) s (lists [] bs [])
swapped-last rows ls r s bs h some is within same over count =
    let e : End = end_of_all rows ls
    in let end : IsEnd rows ls e = IsEnd-all rows ls h
    in let last : last_row rows e r = last-row rows e r some end.within.rows is
    in let here : IsLast rows ls e r = IsEnd-before rows ls e r end some last
    in let ms : Lists = lists [] bs []
    in let after : Lists = lists ls.items (older (bytes_of_row r) ls.bytes ++ bs) ls.beside
    in let counts : IsOwn s ms = record { items = sym (same.items ∙ within-items r within); bytes = count ∙ sym same.bytes; beside = sym (same.beside ∙ within-beside r within) }
    in let lists_are : after ≡ replaced ls e r ms
    = same-lists after (replaced ls e r ms) (unchanged (items_of_row r) ls.items (within-items r within))
    (sym (ap (λ xs. (older (bytes_of_row r) ls.bytes ++ bs) ++ xs) (none-behind ls.bytes) ∙ append-nil (older (bytes_of_row r) ls.bytes ++ bs)))
    (unchanged (beside_of_row r) ls.beside (within-beside r within))
    in record {
      packed = subst (λ l. ArePacked (reverse (set rows (e.rows - 1) s)) l) (sym lists_are) (ArePacked-replaced rows ls ms e r s end last here counts over);
      changes = ap (λ l. changes_of_rows (set rows (e.rows - 1) s) l) lists_are ∙ changes-replaced rows ls ms e r s end last here counts;
    }

-- and all but it stay where it is dropped
pub record Dropped (rows : List PackedRow) (ls : Lists) (r : PackedRow) : Type 0 where
  pub packed : ArePacked (reverse (take (length rows - 1) rows)) (lists ls.items (older (bytes_of_row r) ls.bytes) ls.beside)
  pub changes : changes_of_rows (take (length rows - 1) rows) (lists ls.items (older (bytes_of_row r) ls.bytes) ls.beside) ≡ take (length rows - 1) (changes_of_rows rows ls)

pub dropped-last : (rows : List PackedRow) (ls : Lists) (r : PackedRow) → ArePacked (reverse rows) ls → 0 < length rows → r ≡ get_or rows (length rows - 1) r → HasNoMore r → Dropped rows ls r
dropped-last rows ls r h some is within =
    let e : End = end_of_all rows ls
    in let end : IsEnd rows ls e = IsEnd-all rows ls h
    in let last : last_row rows e r = last-row rows e r some end.within.rows is
    in let here : IsLast rows ls e r = IsEnd-before rows ls e r end some last
    in let before : End = end_before e r
    in let left : lists_to before ls ≡ lists ls.items (older (bytes_of_row r) ls.bytes) ls.beside
    = same-lists (lists_to before ls) (lists ls.items (older (bytes_of_row r) ls.bytes) ls.beside) (kept-whole (items_of_row r) ls.items (within-items r within)) refl (kept-whole (beside_of_row r) ls.beside (within-beside r within))
    in record {
      packed = subst (λ k. ArePacked (reverse (take (length rows - 1) rows)) k) left here.before.packed;
      changes = ap (λ k. changes_of_rows (take (length rows - 1) rows) k) (sym left) ∙ first-changes rows ls before here.before;
    }

-- the bytes of the changes are those of the list
values-of-bytes : (a : ℕ) (bs : List ℕ) → byte_values (byte_cells a bs) ≡ bs
values-of-bytes a [] = refl
values-of-bytes a (b ∷ bs) = ap (λ l. b ∷ l) (values-of-bytes (a + 1) bs)

byte_values-append : (cs ds : List Cell) → byte_values (cs ++ ds) ≡ byte_values cs ++ byte_values ds
byte_values-append [] ds = refl
byte_values-append (c ∷ cs) ds = ap (λ l. value_if_byte c.place c.value ++ l) (byte_values-append cs ds) ∙ sym (append_assoc (value_if_byte c.place c.value) (byte_values cs) (byte_values ds))

no-byte-value : (p : Place) (v : ℕ) → ((a : ℕ) → p ≡ Byte a → ⊥) → value_if_byte p v ≡ []
no-byte-value (Byte a) v h = absurd (h a refl)
no-byte-value p v h = refl

pub fit-right : (cs ds : List Cell) → AllFit true (cs ++ ds) → AllFit true ds
fit-right [] ds h = h
fit-right (c ∷ cs) ds h = fit-right cs ds h.1

values-of-items : (is : List Item) (bs : List ℕ) → AreItems is → bytes_of_items is ≡ length bs → AllFit true (cells_of_items is bs) → byte_values (cells_of_items is bs) ≡ bs
values-of-items [] [] h e f = refl
values-of-items [] (b ∷ bs) h e f = absurd (omega (arith, e))
values-of-items (Single c ∷ is) bs h e f =
    let no : (a : ℕ) → c.place ≡ Byte a → ⊥ = λ a k. let small : c.value < 256 = rw k at f.0 in omega (arith, h.0 a k, small)
    in ap (λ l. l ++ byte_values (cells_of_items is bs)) (no-byte-value c.place c.value no) ∙ values-of-items is bs h.1 (omega (arith, e)) f.1
values-of-items (Run a n ∷ is) bs h e f =
    byte_values-append (byte_cells a (take n bs)) (cells_of_items is (drop n bs))
    ∙ ap (λ l. l ++ byte_values (cells_of_items is (drop n bs))) (values-of-bytes a (take n bs))
    ∙ ap (λ l. take n bs ++ l) (values-of-items is (drop n bs) h.1 (omega (arith, e, length-drop n bs)) (fit-right (byte_cells a (take n bs)) (cells_of_items is (drop n bs)) f))
    ∙ take-append-drop n bs

values-of-row : (r : PackedRow) (is : List Item) (bs : List ℕ) → IsOver r is bs → byte_values (cells_of_row r is bs) ≡ bs
values-of-row (Bytes count address psw) is bs h = values-of-bytes address bs
values-of-row (More beside items bytes count) is bs h = values-of-items is bs h.3.whole h.3.all h.3.fit
values-of-row r is bs h = sym h.1

cells-with : (cells : List Cell) (o : Option Beside) → (change_with cells o).cells ≡ cells
cells-with cells None = refl
cells-with cells (Some b) = refl

bytes-push : (xs : List Change) (x : Change) → bytes_of_changes (xs ++ x ∷ []) ≡ bytes_of_changes xs ++ byte_values x.cells
bytes-push [] x = append-nil (byte_values x.cells)
bytes-push (y ∷ xs) x = ap (λ l. byte_values y.cells ++ l) (bytes-push xs x) ∙ sym (append_assoc (byte_values y.cells) (bytes_of_changes xs) (byte_values x.cells))

bytes-unpacked : (rs : List PackedRow) (ls : Lists) → ArePacked rs ls → bytes_of_changes (reverse (unpacked rs ls)) ≡ ls.bytes
bytes-unpacked [] ls h = sym h.1
bytes-unpacked (r ∷ rs) ls h =
    let x : Change = change_of_row r (own r ls)
    in ap (λ xs. bytes_of_changes xs) (reverse-cons x (unpacked rs (others r ls))) ∙ bytes-push (reverse (unpacked rs (others r ls))) x
    ∙ ap (λ l. l ++ byte_values x.cells) (bytes-unpacked rs (others r ls) h.2)
    ∙ ap (λ l. (others r ls).bytes ++ l) (ap (λ cs. byte_values cs) (cells-with (cells_of_row r (own r ls).items (own r ls).bytes) (slice_get (own r ls).beside 0)) ∙ values-of-row r (own r ls).items (own r ls).bytes h.1)
    ∙ older-newest (bytes_of_row r) ls.bytes

pub bytes-of-rows : (rows : List PackedRow) (ls : Lists) → ArePacked (reverse rows) ls → bytes_of_changes (changes_of_rows rows ls) ≡ ls.bytes
bytes-of-rows rows ls h = bytes-unpacked (reverse rows) ls h

-- a change of the PSW and of one run has the row of a run
pub row-of-bytes : (x : CoreChange) (psw address count : ℕ) (bs : List ℕ) → x.psw ≡ Some psw → byte_cells address bs ≡ x.cells → 0 < length x.cells → address + length bs ≤ 2 ^ 32 → length bs ≡ count
    → IsRowOf (cells_of_change x) (Bytes count address psw) bs
row-of-bytes x psw address count bs p cells some fit many = record {
  within = tt;
  over = (refl, many, omega (arith, ap length cells, length-byte_cells address bs, some, many), omega (arith, many, fit));
  cells_are = rw p (ap (λ (l : List Cell). psw_cell psw ∷ l) cells);
}
