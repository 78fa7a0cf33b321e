-- The exchange of single cells and runs, item after item.
use Rattle.std.proofs.Common.{◌≡◌, ◌<◌, ◌+◌, ◌-◌, ◌++◌, ◌∙◌, ℕ, Bool, suc, List, [], ◌∷◌, refl, ap, sym, take, drop, set, get_or, length, arith}
use Rattle.std.proofs.lemmas.Slice.{drop-put_mid, take-put_mid}
use borrow.Rule.Slice.PartMut.{put_mid}
use Rattle.std.proofs.lemmas.List.{append_assoc, drop-drop, length-set, drop-set-lt, drop_more, length-append, length-drop, length-take-le, set-get_or, take-append-drop, take_more, take_more_set}
use Rattle.s360_model.specs.Core.{Core}
use Rattle.s360_model.specs.Storage.{Storage, with_run}
use Rattle.s360_store.specs.declared.items.Item.{Item}
use Rattle.s360_store.specs.declared.items.Item.TheVariants.{Single, Run}
use Rattle.s360_store.specs.declared.place.Place.{Place}
use Rattle.s360_store.specs.declared.place.Place.TheVariants.{Register}
use Rattle.s360_store.specs.declared.place.Cell.{Cell}
use Rattle.s360_store.specs.Cells.{AllFit, AreCellsOf, IsFresh, after_exchange, byte_cells, cells_after_exchange}
use Rattle.s360_store.specs.Items.{IsNoByte, AreItems, IsItem, bytes_of_items, cells_of_items, core_of}
use Rattle.s360_store.specs.Places.{Fits, value_at, with_value}
use Rattle.s360_store.specs.Plans.{HasBytes}
use Rattle.s360_store.proofs.ExchangeLemmas.{AreCellsOf-kept, fetch_protection-after_exchange}
use Rattle.s360_store.proofs.PlaceLemmas.{fetch_protection-kept}
use Rattle.s360_store.proofs.RunLemmas.{AllFit-run, IsPlanOf-bytes, cells_after_exchange-bytes, run-fits, run-inside}
use Rattle.s360_store.proofs.ItemLemmas.{AreItems-at, AreItems-set, bytes_of_items-append, cells_of_items-run, cells_of_items-single}

-- cells one after another
pub after_exchange-append : (m : Core) (xs ys : List Cell) → after_exchange m (xs ++ ys) ≡ after_exchange (after_exchange m xs) ys
after_exchange-append m [] ys = refl
after_exchange-append m (c ∷ xs) ys = after_exchange-append (with_value m c.place c.value) xs ys

pub cells_after_exchange-append : (m : Core) (xs ys : List Cell) → cells_after_exchange m (xs ++ ys) ≡ cells_after_exchange m xs ++ cells_after_exchange (after_exchange m xs) ys
cells_after_exchange-append m [] ys = refl
cells_after_exchange-append m (c ∷ xs) ys =
    ap (λ (l : List Cell). record { place = c.place; value = value_at m c.place } ∷ l) (cells_after_exchange-append (with_value m c.place c.value) xs ys)

IsFresh-left : (p : Place) (xs ys : List Cell) → IsFresh p (xs ++ ys) → IsFresh p xs
IsFresh-left p [] ys h = tt
IsFresh-left p (c ∷ xs) ys h = (h.0, IsFresh-left p xs ys h.1)

pub AreCellsOf-left : (m : Core) (xs ys : List Cell) → AreCellsOf m (xs ++ ys) → AreCellsOf m xs
AreCellsOf-left m [] ys h = tt
AreCellsOf-left m (c ∷ xs) ys h = (h.0, h.1, IsFresh-left c.place xs ys h.2, AreCellsOf-left m xs ys h.3)

pub AreCellsOf-right : (m : Core) (xs ys : List Cell) → AreCellsOf m (xs ++ ys) → AreCellsOf m ys
AreCellsOf-right m [] ys h = h
AreCellsOf-right m (c ∷ xs) ys h = AreCellsOf-right m xs ys h.3

pub AreCellsOf-later : (m : Core) (xs ys : List Cell) → AreCellsOf m (xs ++ ys) → AreCellsOf (after_exchange m xs) ys
AreCellsOf-later m [] ys h = h
AreCellsOf-later m (c ∷ xs) ys h = AreCellsOf-later (with_value m c.place c.value) xs ys (AreCellsOf-kept m (xs ++ ys) c.place c.value h.3)

AllFit-append : (option : Bool) (xs ys : List Cell) → AllFit option xs → AllFit option ys → AllFit option (xs ++ ys)
AllFit-append option [] ys h k = k
AllFit-append option (c ∷ xs) ys h k = (h.0, AllFit-append option xs ys h.1 k)

-- the items before an index were exchanged
pub record ExchangingItems (m n : Core) (is₀ is : List Item) (bs₀ bs : List ℕ) (k from : ℕ) : Type 0 where
  pub core : after_exchange m (cells_of_items is₀ bs₀) ≡ after_exchange n (cells_of_items (drop k is) (drop from bs))
  pub cells : cells_after_exchange m (cells_of_items is₀ bs₀) ≡ cells_of_items (take k is) (take from bs) ++ cells_after_exchange n (cells_of_items (drop k is) (drop from bs))
  pub fit : AllFit n.storage.fetch_protection (cells_of_items (take k is) (take from bs))
  pub can : AreCellsOf n (cells_of_items (drop k is) (drop from bs))
  pub items : AreItems is
  pub done : bytes_of_items (take k is) ≡ from
  pub left : from + bytes_of_items (drop k is) ≡ length bs

-- the bytes of the run at an index are inside storage
pub exchanging-inside : (m n : Core) (is₀ is : List Item) (bs₀ bs : List ℕ) (k from a count : ℕ) (d : Item) → k < length is → get_or is k d ≡ Run a count
    → ExchangingItems m n is₀ is bs₀ bs k from → HasBytes a (length (take count (drop from bs))) n
exchanging-inside m n is₀ is bs₀ bs k from a count d l g x =
    let here : drop k is ≡ Run a count ∷ drop (k + 1) is = drop_more is k d l ∙ ap (λ (i : Item). i ∷ drop (k + 1) is) g
    in let items : IsItem (get_or is k d) = AreItems-at is k d l x.items
    in let some : IsItem (Run a count) = rw g at items
    in let bytes : from + (count + bytes_of_items (drop (k + 1) is)) ≡ length bs = rw here at x.left
    in let many : length (take count (drop from bs)) ≡ count = length-take-le count (drop from bs) (omega (arith, bytes, length-drop from bs))
    in let can : AreCellsOf n (byte_cells a (take count (drop from bs)) ++ cells_of_items (drop (k + 1) is) (drop count (drop from bs))) = rw here at x.can
    in run-inside n a (take count (drop from bs)) (AreCellsOf-left n (byte_cells a (take count (drop from bs))) _ can) (omega (arith, many, some.0))

-- a single cell more
pub exchanging-single : (m n : Core) (is₀ is : List Item) (bs₀ bs : List ℕ) (k from : ℕ) (d : Item) (c : Cell) → k < length is → get_or is k d ≡ Single c
    → Fits n.storage.fetch_protection c.place (value_at n c.place) → ExchangingItems m n is₀ is bs₀ bs k from
    → ExchangingItems m (with_value n c.place c.value) is₀ (set is k (Single (record { place = c.place; value = value_at n c.place }))) bs₀ bs (k + 1) from
exchanging-single m n is₀ is bs₀ bs k from d c l g fits x =
    let new : Cell = record { place = c.place; value = value_at n c.place }
    in let here : drop k is ≡ Single c ∷ drop (k + 1) is = drop_more is k d l ∙ ap (λ (i : Item). i ∷ drop (k + 1) is) g
    in let later : drop (k + 1) (set is k (Single new)) ≡ drop (k + 1) is = drop-set-lt (k + 1) is k (Single new) (omega arith)
    in let before : take (k + 1) (set is k (Single new)) ≡ take k is ++ Single new ∷ [] = take_more_set is k (Single new) l
    in let rest : List Cell = cells_of_items (drop (k + 1) is) (drop from bs)
    in let can : AreCellsOf n (c ∷ rest) = rw here at x.can
    in let core : after_exchange m (cells_of_items is₀ bs₀) ≡ after_exchange n (c ∷ rest) = rw here at x.core
    in let cells : cells_after_exchange m (cells_of_items is₀ bs₀) ≡ cells_of_items (take k is) (take from bs) ++ cells_after_exchange n (c ∷ rest) = rw here at x.cells
    in let bytes : from + bytes_of_items (Single c ∷ drop (k + 1) is) ≡ length bs = rw here at x.left
    in record {
      core = rw later core;
      cells = rw (later, before, cells_of_items-single (take k is) (take from bs) new) (cells ∙ sym (append_assoc (cells_of_items (take k is) (take from bs)) (new ∷ []) (cells_after_exchange (with_value n c.place c.value) rest)));
      fit = rw (before, cells_of_items-single (take k is) (take from bs) new, fetch_protection-kept n c.place c.value) (AllFit-append n.storage.fetch_protection (cells_of_items (take k is) (take from bs)) (new ∷ []) x.fit (fits, tt));
      can = rw later (AreCellsOf-kept n rest c.place c.value can.3);
      items = AreItems-set is k (Single new) x.items (λ a e.
          let held : IsNoByte c = rw g at (AreItems-at is k d l x.items)
          in let small : c.value < 256 = rw e at can.1
          in absurd (omega (arith, held a e, small)));
      done = rw before (omega (arith, bytes_of_items-append (take k is) (Single new ∷ []), x.done));
      left = rw later (omega (arith, bytes));
    }

-- a run more
pub exchanging-run : (m n o : Core) (is₀ is : List Item) (bs₀ bs new taken : List ℕ) (k from a count : ℕ) (d : Item) → k < length is → get_or is k d ≡ Run a count
    → o ≡ after_exchange n (byte_cells a (take count (drop from bs))) → cells_after_exchange n (byte_cells a (take count (drop from bs))) ≡ byte_cells a taken → AllFit n.storage.fetch_protection (byte_cells a taken)
    → length taken ≡ count → take (from + count) new ≡ take from bs ++ taken → drop (from + count) new ≡ drop (from + count) bs
    → ExchangingItems m n is₀ is bs₀ bs k from → ExchangingItems m o is₀ is bs₀ new (k + 1) (from + count)
exchanging-run m n o is₀ is bs₀ bs new taken k from a count d l g made back fits many front behind x =
    let here : drop k is ≡ Run a count ∷ drop (k + 1) is = drop_more is k d l ∙ ap (λ (i : Item). i ∷ drop (k + 1) is) g
    in let before : take (k + 1) is ≡ take k is ++ Run a count ∷ [] = take_more is k d l ∙ ap (λ (i : Item). take k is ++ i ∷ []) g
    in let ours : List Cell = byte_cells a (take count (drop from bs))
    in let rest : List Cell = cells_of_items (drop (k + 1) is) (drop (from + count) bs)
    in let past : drop count (drop from bs) ≡ drop (from + count) bs = drop-drop count from bs
    in let can : AreCellsOf n (ours ++ rest) = rw past at (rw here at x.can)
    in let core : after_exchange m (cells_of_items is₀ bs₀) ≡ after_exchange n (ours ++ rest) = rw past at (rw here at x.core)
    in let cells : cells_after_exchange m (cells_of_items is₀ bs₀) ≡ cells_of_items (take k is) (take from bs) ++ cells_after_exchange n (ours ++ rest) = rw past at (rw here at x.cells)
    in let bytes : from + (count + bytes_of_items (drop (k + 1) is)) ≡ length bs = rw here at x.left
    in let enough : length (take from bs) ≡ from = length-take-le from bs (omega (arith, bytes))
    in let same : length new ≡ length bs
    = omega (arith, ap length (take-append-drop (from + count) new), length-append (take (from + count) new) (drop (from + count) new), ap length front, length-append (take from bs) taken, ap length behind, length-drop (from + count) bs, enough, many, bytes)
    in let those : cells_of_items (take (k + 1) is) (take (from + count) new) ≡ cells_of_items (take k is) (take from bs) ++ byte_cells a taken
    = rw (before, front) (cells_of_items-run (take k is) (take from bs) taken a count (x.done ∙ sym enough) (sym many))
    in record {
      core = rw (behind, made) (core ∙ after_exchange-append n ours rest);
      cells = rw (behind, made, those) (cells ∙ ap (λ (ds : List Cell). cells_of_items (take k is) (take from bs) ++ ds) (cells_after_exchange-append n ours rest ∙ ap (λ (ds : List Cell). ds ++ cells_after_exchange (after_exchange n ours) rest) back)
          ∙ sym (append_assoc (cells_of_items (take k is) (take from bs)) (byte_cells a taken) (cells_after_exchange (after_exchange n ours) rest)));
      fit = rw (those, made, fetch_protection-after_exchange n ours) (AllFit-append n.storage.fetch_protection (cells_of_items (take k is) (take from bs)) (byte_cells a taken) x.fit fits);
      can = rw (behind, made) (AreCellsOf-later n ours rest can);
      items = x.items;
      done = rw before (omega (arith, bytes_of_items-append (take k is) (Run a count ∷ []), x.done));
      left = omega (arith, bytes, same);
    }

-- a run that was exchanged with storage
pub exchanging-swapped : (m : Core) (psw : ℕ) (registers : List ℕ) (s t : Storage) (is₀ is : List Item) (bs₀ bs taken : List ℕ) (k from a count : ℕ) (d : Item) → k < length is → get_or is k d ≡ Run a count
    → t ≡ record s { bytes = with_run s.bytes a (take count (drop from bs)) } → taken ≡ take (a + length (take count (drop from bs)) - a) (drop a s.bytes) → ((i : ℕ) → i < length taken → get_or taken i 0 < 256)
    → ExchangingItems m (core_of psw registers s) is₀ is bs₀ bs k from
    → ExchangingItems m (core_of psw registers t) is₀ (set is k (Run a count)) bs₀ (put_mid from count bs taken) (k + 1) (from + count)
exchanging-swapped m psw registers s t is₀ is bs₀ bs taken k from a count d l g made raw fits x =
    let n : Core = core_of psw registers s
    in let here : drop k is ≡ Run a count ∷ drop (k + 1) is = drop_more is k d l ∙ ap (λ (i : Item). i ∷ drop (k + 1) is) g
    in let bytes : from + (count + bytes_of_items (drop (k + 1) is)) ≡ length bs = rw here at x.left
    in let ours : List ℕ = take count (drop from bs)
    in let many : length ours ≡ count = length-take-le count (drop from bs) (omega (arith, bytes, length-drop from bs))
    in let asked : a + length ours - a ≡ count = omega (arith, many)
    in let got : taken ≡ take count (drop a s.bytes) = raw ∙ ap (λ c. take c (drop a s.bytes)) asked
    in let can : AreCellsOf n (byte_cells a ours ++ cells_of_items (drop (k + 1) is) (drop count (drop from bs))) = rw here at x.can
    in let cells : AreCellsOf n (byte_cells a ours) = AreCellsOf-left n (byte_cells a ours) _ can
    in let inside : HasBytes a (length ours) n = exchanging-inside m n is₀ is bs₀ bs k from a count d l g x
    in let count-taken : length taken ≡ count = ap length got ∙ length-take-le count (drop a s.bytes) (omega (arith, inside, many, length-drop a s.bytes))
    in let after : core_of psw registers t ≡ after_exchange n (byte_cells a ours) = rw made (sym (IsPlanOf-bytes n a ours (run-fits n a ours cells) inside).makes)
    in let back : cells_after_exchange n (byte_cells a ours) ≡ byte_cells a taken = cells_after_exchange-bytes n a ours taken inside (got ∙ ap (λ c. take c (drop a s.bytes)) (sym many))
    in let unchanged : set is k (Run a count) ≡ is = ap (λ (i : Item). set is k i) (sym g) ∙ set-get_or is k d
    in rw unchanged (exchanging-run m n (core_of psw registers t) is₀ is bs₀ bs (put_mid from count bs taken) taken k from a count d l g after back (AllFit-run s.fetch_protection a taken fits) count-taken
    (take-put_mid from count bs taken (from + count) (omega (arith, count-taken)) (omega (arith, bytes))) (drop-put_mid from count bs taken (from + count) (omega arith) (omega (arith, bytes)) count-taken) x)

pub length-cells_after_exchange : (m : Core) (cs : List Cell) → length (cells_after_exchange m cs) ≡ length cs
length-cells_after_exchange m [] = refl
length-cells_after_exchange m (c ∷ cs) = ap suc (length-cells_after_exchange (with_value m c.place c.value) cs)

-- an exchange keeps the number of registers
registers-with : (m : Core) (p : Place) (v : ℕ) → length (with_value m p v).registers ≡ length m.registers
registers-with m (Register n) v = length-set m.registers n v
registers-with m p v = refl

registers-kept : (m : Core) (cs : List Cell) → length (after_exchange m cs).registers ≡ length m.registers
registers-kept m [] = refl
registers-kept m (c ∷ cs) = registers-kept (with_value m c.place c.value) cs ∙ registers-with m c.place c.value

pub registers-after : (m n : Core) (cs : List Cell) (count : ℕ) → n ≡ after_exchange m cs → length m.registers ≡ count → length n.registers ≡ count
registers-after m n cs count e h = ap (λ (k : Core). length k.registers) e ∙ registers-kept m cs ∙ h
