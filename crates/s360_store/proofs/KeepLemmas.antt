-- Which bytes of a run that is planned are kept, run by run.
use Rattle.std.proofs.Common.{◌≡◌, ◌≢◌, ◌<◌, ◌≤◌, ◌+◌, ◌-◌, ◌++◌, ◌∙◌, ℕ, zero, suc, List, [], ◌∷◌, refl, ap, sym, take, drop, get_or, length, append-nil, arith, subst}
use Rattle.std.proofs.lemmas.List.{append_assoc, drop-append-le, drop-take, drop_all, drop_more, length-append, length-drop, length-take-le, take-append-drop, take_all, take_more, get_or-take, get_or-drop}
use Rattle.s360_model.specs.Core.{Core}
use Rattle.s360_store.specs.declared.place.Place.{Place}
use Rattle.s360_store.specs.declared.place.Place.TheVariants.{Byte}
use Rattle.s360_store.specs.declared.place.Cell.{Cell}
use Rattle.s360_store.specs.Cells.{AreCellsOf, IsFresh, byte_cells}
use Rattle.s360_store.specs.Differences.{AreKept, KeepsAltering}
use Rattle.s360_store.specs.Differing.{IsNextRun}
use Rattle.s360_store.proofs.ByteCellLemmas.{byte_cells-more, byte_cells-parts, length-byte_cells}
use Rattle.s360_store.proofs.KeptLemmas.{AreKept-other, AreKept-same, IsCellOf}

fresh-middle : (p : Place) (cs ds : List Cell) (c : Cell) → IsFresh p (cs ++ c ∷ ds) → p ≢ c.place
fresh-middle p [] ds c h = h.0
fresh-middle p (d ∷ cs) ds c h = fresh-middle p cs ds c h.1

-- a cell behind others
pub IsCellOf-behind : (m : Core) (cs ds : List Cell) (c : Cell) → AreCellsOf m (cs ++ c ∷ ds) → IsCellOf m cs c
IsCellOf-behind m [] ds c h = record { inside = h.0; fits = h.1; fresh = tt }
IsCellOf-behind m (d ∷ cs) ds c h =
    let later : IsCellOf m cs c = IsCellOf-behind m cs ds c h.3
    in record { inside = later.inside; fits = later.fits; fresh = (λ e. fresh-middle d.place cs ds c h.2 (sym e), later.fresh) }

-- a plan, and bytes of which so many were compared
abbrev pub compared : List Cell → ℕ → List ℕ → ℕ → List Cell
compared plan a new at = plan ++ byte_cells a (take at new)

abbrev pub byte_cell : ℕ → List ℕ → ℕ → Cell
byte_cell a new at = record { place = Byte (a + at); value = get_or new at 0 }

compared-more : (plan : List Cell) (a : ℕ) (new : List ℕ) (at : ℕ) → at < length new → compared plan a new (at + 1) ≡ compared plan a new at ++ byte_cell a new at ∷ []
compared-more plan a new at l =
    ap (λ (cs : List Cell). plan ++ cs) (byte_cells-more a new at l) ∙ sym (append_assoc plan (byte_cells a (take at new)) (byte_cell a new at ∷ []))

compared-cell : (m : Core) (plan : List Cell) (a : ℕ) (new : List ℕ) (at : ℕ) → at < length new → AreCellsOf m (plan ++ byte_cells a new) → IsCellOf m (compared plan a new at) (byte_cell a new at)
compared-cell m plan a new at l h =
    let count : length (take at new) ≡ at = length-take-le at new (omega arith)
    in let split : byte_cells a new ≡ byte_cells a (take at new) ++ byte_cells (a + at) (drop at new)
    = ap (byte_cells a) (sym (take-append-drop at new)) ∙ byte_cells-parts a (take at new) (drop at new) ∙ ap (λ n. byte_cells a (take at new) ++ byte_cells (a + n) (drop at new)) count
    in let first : byte_cells (a + at) (drop at new) ≡ byte_cell a new at ∷ byte_cells (a + at + 1) (drop (at + 1) new) = rw (drop_more new at 0 l) refl
    in let whole : plan ++ byte_cells a new ≡ compared plan a new at ++ byte_cell a new at ∷ byte_cells (a + at + 1) (drop (at + 1) new)
    = ap (λ (cs : List Cell). plan ++ cs) (split ∙ ap (λ (cs : List Cell). byte_cells a (take at new) ++ cs) first)
    ∙ sym (append_assoc plan (byte_cells a (take at new)) (byte_cell a new at ∷ byte_cells (a + at + 1) (drop (at + 1) new)))
    in IsCellOf-behind m (compared plan a new at) _ (byte_cell a new at) (rw whole at h)

-- the bytes from `start` on differ that were compared last, and were not added yet
abbrev pub waiting : ℕ → List ℕ → ℕ → ℕ → List Cell
waiting a new start at = byte_cells (a + start) (drop start (take at new))

pub record Keeping (m : Core) (old now : List Cell) (a : ℕ) (new : List ℕ) (start at : ℕ) : Type 0 where
  pub begun : start ≤ at
  pub within : at ≤ length new
  pub few : length now + (at - start) ≤ length old + at
  pub kept : (plan : List Cell) → AreCellsOf m (plan ++ byte_cells a new) → AreKept m plan old → AreKept m (compared plan a new at) (now ++ waiting a new start at)

pub keeping-none : (m : Core) (old : List Cell) (a : ℕ) (new : List ℕ) → Keeping m old old a new 0 0
keeping-none m old a new = record {
  begun = omega arith;
  within = omega arith;
  few = omega arith;
  kept = λ plan h k. rw (append-nil plan, append-nil old) k;
}

pub none-waits : (a : ℕ) (new : List ℕ) (at : ℕ) → at ≤ length new → waiting a new at at ≡ []
none-waits a new at l =
    let count : length (take at new) ≡ at = length-take-le at new l
    in let none : drop at (take at new) ≡ [] = drop_all at (take at new) (omega (arith, count))
    in rw none refl

waits-more : (a : ℕ) (new : List ℕ) (start at : ℕ) → start ≤ at → at < length new → waiting a new start (at + 1) ≡ waiting a new start at ++ byte_cell a new at ∷ []
waits-more a new start at s l =
    let x : List ℕ = get_or new at 0 ∷ []
    in let count : length (take at new) ≡ at = length-take-le at new (omega arith)
    in let more : drop start (take (at + 1) new) ≡ drop start (take at new) ++ x
    = ap (drop start) (take_more new at 0 l) ∙ drop-append-le start (take at new) x (omega (arith, count))
    in let sum : a + start + length (drop start (take at new)) ≡ a + at = omega (arith, length-drop start (take at new), count)
    in ap (byte_cells (a + start)) more ∙ byte_cells-parts (a + start) (drop start (take at new)) x ∙ ap (λ n. waiting a new start at ++ byte_cells n x) sum

-- a byte that stands there: what waits is added
pub keeping-same : (m : Core) (old now next : List Cell) (a : ℕ) (new : List ℕ) (start at : ℕ) → at < length new → Keeping m old now a new start at → get_or m.storage.bytes (a + at) 0 ≡ get_or new at 0
    → next ≡ now ++ waiting a new start at → Keeping m old next a new (at + 1) (at + 1)
keeping-same m old now next a new start at l k same e =
    let count : length (waiting a new start at) ≡ at - start
    = length-byte_cells (a + start) (drop start (take at new)) ∙ length-drop start (take at new) ∙ ap (λ n. n - start) (length-take-le at new (omega arith))
    in record {
      begun = omega arith;
      within = omega (arith, l);
      few = omega (arith, ap length e, length-append now (waiting a new start at), count, k.few);
      kept = λ plan h p. rw (compared-more plan a new at l, none-waits a new (at + 1) (omega arith), append-nil, e)
          (AreKept-same m (compared plan a new at) (now ++ waiting a new start at) (byte_cell a new at) (k.kept plan h p) (compared-cell m plan a new at l h).fresh same);
    }

-- a byte that does not waits
pub keeping-other : (m : Core) (old now : List Cell) (a : ℕ) (new : List ℕ) (start at : ℕ) → at < length new → Keeping m old now a new start at → get_or m.storage.bytes (a + at) 0 ≢ get_or new at 0
    → Keeping m old now a new start (at + 1)
keeping-other m old now a new start at l k other = record {
  begun = omega (arith, k.begun);
  within = omega (arith, l);
  few = omega (arith, k.few, k.begun);
  kept = λ plan h p. rw (compared-more plan a new at l, waits-more a new start at k.begun l, ← append_assoc now (waiting a new start at) (byte_cell a new at ∷ []))
      (AreKept-other m (compared plan a new at) (now ++ waiting a new start at) (byte_cell a new at) (k.kept plan h p) (compared-cell m plan a new at l h) other);
}

-- so many bytes that do not
pub keeping-others : (m : Core) (old now : List Cell) (a : ℕ) (new : List ℕ) (start at n : ℕ) → at + n ≤ length new → Keeping m old now a new start at
    → ((i : ℕ) → i < n → get_or m.storage.bytes (a + (at + i)) 0 ≢ get_or new (at + i) 0) → Keeping m old now a new start (at + n)
keeping-others m old now a new start at zero l k h = let none : at ≡ at + 0 = omega arith in subst (λ j. Keeping m old now a new start j) none k
keeping-others m old now a new start at (suc n) l k h =
    let before : Keeping m old now a new start (at + n) = keeping-others m old now a new start at n (omega (arith, l)) k (λ i j. h i (omega (arith, j)))
    in let on : at + n + 1 ≡ at + suc n = omega arith
    in subst (λ j. Keeping m old now a new start j) on (keeping-other m old now a new start (at + n) (omega (arith, l)) before (h n (omega arith)))

-- the bytes that wait, as the code lends them
pub waiting-slice : (new : List ℕ) (start at : ℕ) → start ≤ at → take (at - start) (drop start new) ≡ drop start (take at new)
waiting-slice new start at l =
    let sum : start + (at - start) ≡ at = omega (arith, l)
    in sym (rw sum at (drop-take start (at - start) new))

-- so many bytes that stand there, where none waits
pub keeping-passed : (m : Core) (old now : List Cell) (a : ℕ) (new : List ℕ) (at n : ℕ) → at + n ≤ length new → Keeping m old now a new at at
    → ((i : ℕ) → i < n → get_or m.storage.bytes (a + (at + i)) 0 ≡ get_or new (at + i) 0) → Keeping m old now a new (at + n) (at + n)
keeping-passed m old now a new at zero l k h = let none : at ≡ at + 0 = omega arith in subst (λ j. Keeping m old now a new j j) none k
keeping-passed m old now a new at (suc n) l k h =
    let before : Keeping m old now a new (at + n) (at + n) = keeping-passed m old now a new at n (omega (arith, l)) k (λ i j. h i (omega (arith, j)))
    in let on : at + n + 1 ≡ at + suc n = omega arith
    in let nothing : now ≡ now ++ waiting a new (at + n) (at + n) = sym (ap (λ (cs : List Cell). now ++ cs) (none-waits a new (at + n) (omega (arith, l))) ∙ append-nil now)
    in subst (λ j. Keeping m old now a new j j) on (keeping-same m old now now a new (at + n) (at + n) (omega (arith, l)) before (h n (omega (arith, l))) nothing)

-- what waits is added
keeping-added : (m : Core) (old now next : List Cell) (a : ℕ) (new : List ℕ) (s e : ℕ) → Keeping m old now a new s e → next ≡ now ++ waiting a new s e → Keeping m old next a new e e
keeping-added m old now next a new s e k eq =
    let count : length (waiting a new s e) ≡ e - s
    = length-byte_cells (a + s) (drop s (take e new)) ∙ length-drop s (take e new) ∙ ap (λ n. n - s) (length-take-le e new k.within)
    in record {
      begun = omega arith;
      within = k.within;
      few = omega (arith, ap length eq, length-append now (waiting a new s e), count, k.few, k.begun);
      kept = λ plan h p. rw (none-waits a new e k.within, append-nil, eq) (k.kept plan h p);
    }

-- the next run that differs is added, where the bytes that stand there are lent
pub keeping-run : (m : Core) (old now next : List Cell) (a : ℕ) (new stored : List ℕ) (at s e : ℕ) → ((i : ℕ) → i < length new → get_or stored i 0 ≡ get_or m.storage.bytes (a + i) 0) → IsNextRun stored new at s e
    → Keeping m old now a new at at → next ≡ now ++ byte_cells (a + s) (take (e - s) (drop s new)) → Keeping m old next a new e e
keeping-run m old now next a new stored at s e there r k eq =
    let to : at + (s - at) ≡ s = omega (arith, r.order)
    in let passed : Keeping m old now a new s s
    = subst (λ j. Keeping m old now a new j j) to
    (keeping-passed m old now a new at (s - at) (omega (arith, r.order, r.begun, r.within)) k (λ i l. sym (there (at + i) (omega (arith, l, r.begun, r.within))) ∙ r.before (at + i) (omega arith) (omega (arith, l))))
    in let through : s + (e - s) ≡ e = omega (arith, r.begun)
    in let others : Keeping m old now a new s e
    = subst (λ j. Keeping m old now a new s j) through
    (keeping-others m old now a new s s (e - s) (omega (arith, r.begun, r.within)) passed (λ i l o. r.inside (s + i) (omega arith) (omega (arith, l)) (there (s + i) (omega (arith, l, r.within)) ∙ o)))
    in keeping-added m old now next a new s e others (eq ∙ ap (λ bs. now ++ byte_cells (a + s) bs) (waiting-slice new s e r.begun))

-- all were compared, and what waits is added
pub keeps-bytes : (m : Core) (old now next : List Cell) (a : ℕ) (new : List ℕ) (start at : ℕ) → length new ≤ at → Keeping m old now a new start at → next ≡ now ++ byte_cells (a + start) (drop start new)
    → KeepsAltering m (byte_cells a new) old next
keeps-bytes m old now next a new start at l k e = λ plan h p.
    let all : take at new ≡ new = take_all at new l
    in rw e (rw all at (k.kept plan h p))

-- all were compared, and nothing waits
pub keeps-all : (m : Core) (old now : List Cell) (a : ℕ) (new : List ℕ) (at : ℕ) → length new ≤ at → Keeping m old now a new at at → KeepsAltering m (byte_cells a new) old now
keeps-all m old now a new at l k =
    let none : now ≡ now ++ byte_cells (a + at) (drop at new) = sym (ap (λ bs. now ++ byte_cells (a + at) bs) (drop_all at new l) ∙ append-nil now)
    in keeps-bytes m old now now a new at at l k none

-- what stood at an address of bytes that are lent
pub stored-at : (bs : List ℕ) (a n at : ℕ) → at < n → get_or (take (a + n - a) (drop a bs)) at 0 ≡ get_or bs (a + at) 0
stored-at bs a n at l =
    let same : a + n - a ≡ n = omega arith
    in rw same (get_or-take n (drop a bs) at 0 l ∙ get_or-drop a bs at 0)
