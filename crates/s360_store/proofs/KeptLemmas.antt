-- Which cells of a plan are kept, and what they make.
use Rattle.std.proofs.Common.{◌≡◌, ◌≢◌, ◌<◌, ◌++◌, ℕ, List, [], ◌∷◌, refl, ap, sym, ◌∙◌, get_or, length, arith, suc, zero, Some, None, slice_get}
use Rattle.s360_model.specs.Core.{Core}
use Rattle.s360_store.specs.declared.place.Place.{Place}
use Rattle.s360_store.specs.declared.place.Cell.{Cell}
use Rattle.s360_store.specs.Places.{with_value, value_at, IsPlaceOf, Fits}
use Rattle.s360_store.specs.Cells.{after_exchange, IsFresh, AreCellsOf, AllDiffer}
use Rattle.s360_store.specs.Differences.{AreKept}
use Rattle.s360_store.proofs.PlaceLemmas.{with_value-same_value}
use Rattle.s360_store.proofs.PlanLemmas.{IsFresh-push}
use Rattle.s360_store.proofs.ExchangeLemmas.{after_exchange-with_value}

IsFresh-front : (cs : List Cell) (c : Cell) (p : Place) → IsFresh p (cs ++ c ∷ []) → IsFresh p cs
IsFresh-front [] c p h = tt
IsFresh-front (d ∷ cs) c p h = (h.0, IsFresh-front cs c p h.1)

IsFresh-last : (cs : List Cell) (c : Cell) (p : Place) → IsFresh p (cs ++ c ∷ []) → p ≢ c.place
IsFresh-last [] c p h = h.0
IsFresh-last (d ∷ cs) c p h = IsFresh-last cs c p h.1

pub IsFresh-at : (cs : List Cell) (i : ℕ) (d : Cell) (p : Place) → i < length cs → IsFresh p cs → p ≢ (get_or cs i d).place
IsFresh-at [] i d p l h = absurd (omega arith)
IsFresh-at (c ∷ cs) zero d p l h = h.0
IsFresh-at (c ∷ cs) (suc i) d p l h = IsFresh-at cs i d p (omega arith) h.1

pub AreCellsOf-push : (m : Core) (cs : List Cell) (c : Cell) → AreCellsOf m cs → IsPlaceOf m c.place → Fits m.storage.fetch_protection c.place c.value → IsFresh c.place cs → AreCellsOf m (cs ++ c ∷ [])
AreCellsOf-push m [] c h i f n = (i, f, tt, tt)
AreCellsOf-push m (d ∷ cs) c h i f n = (h.0, h.1, IsFresh-push cs c d.place (λ e. n.0 (sym e)) h.2, AreCellsOf-push m cs c h.3 i f n.1)

pub AllDiffer-push : (m : Core) (cs : List Cell) (c : Cell) → AllDiffer m cs → value_at m c.place ≢ c.value → AllDiffer m (cs ++ c ∷ [])
AllDiffer-push m [] c h n = (n, tt)
AllDiffer-push m (d ∷ cs) c h n = (h.0, AllDiffer-push m cs c h.1 n)

-- the cell at an index of a plan
pub record IsCellOf (m : Core) (before : List Cell) (c : Cell) : Type 0 where
  pub inside : IsPlaceOf m c.place
  pub fits : Fits m.storage.fetch_protection c.place c.value
  pub fresh : IsFresh c.place before

pub after_exchange-push : (m : Core) (cs : List Cell) (c : Cell) → after_exchange m (cs ++ c ∷ []) ≡ with_value (after_exchange m cs) c.place c.value
after_exchange-push m [] c = refl
after_exchange-push m (d ∷ cs) c = after_exchange-push (with_value m d.place d.value) cs c

-- a cell more that alters nothing, and one that alters its place
pub AreKept-same : (m : Core) (plan kept : List Cell) (c : Cell) → AreKept m plan kept → IsFresh c.place plan → value_at m c.place ≡ c.value → AreKept m (plan ++ c ∷ []) kept
AreKept-same m plan kept c k fresh v =
    let same : with_value (after_exchange m plan) c.place c.value ≡ after_exchange m plan
    = sym (after_exchange-with_value m plan c.place c.value fresh)
    ∙ ap (λ w. after_exchange (with_value m c.place w) plan) (sym v)
    ∙ ap (λ n. after_exchange n plan) (with_value-same_value m c.place)
    in record {
      cells = k.cells;
      makes = k.makes ∙ sym (after_exchange-push m plan c ∙ same);
      among = λ p f. k.among p (IsFresh-front plan c p f);
      alter = k.alter;
    }

pub AreKept-other : (m : Core) (plan kept : List Cell) (c : Cell) → AreKept m plan kept → IsCellOf m plan c → value_at m c.place ≢ c.value → AreKept m (plan ++ c ∷ []) (kept ++ c ∷ [])
AreKept-other m plan kept c k at v = record {
  cells = AreCellsOf-push m kept c k.cells at.inside at.fits (k.among c.place at.fresh);
  makes = after_exchange-push m kept c ∙ ap (λ n. with_value n c.place c.value) k.makes ∙ sym (after_exchange-push m plan c);
  among = λ p g. IsFresh-push kept c p (IsFresh-last plan c p g) (k.among p (IsFresh-front plan c p g));
  alter = AllDiffer-push m kept c k.alter v;
}

-- the cell that a plan answers at an index
pub cell-at : (cs : List Cell) (i : ℕ) (c : Cell) → slice_get cs i ≡ Some c → c ≡ get_or cs i c
cell-at [] i c h = absurd (let none : Some c ≡ None = sym h in cc)
cell-at (d ∷ cs) zero c h = (let same : d ≡ c = cc in sym same)
cell-at (d ∷ cs) (suc i) c h = cell-at cs i c h
