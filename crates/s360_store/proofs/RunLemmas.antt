-- Runs of bytes as cells.
use Rattle.std.proofs.Common.{◌≡◌, ◌<◌, ◌≤◌, ◌+◌, ◌++◌, ℕ, Bool, zero, suc, List, [], ◌∷◌, refl, ap, sym, ◌∙◌, take, drop, get_or, length, arith}
use Rattle.std.proofs.lemmas.List.{append_assoc, drop-drop, drop_at, drop_more, length-append, length-drop, length-take-le, take-append-drop, take_at}
use Rattle.s360_model.specs.Core.{Core, core_with_bytes}
use Rattle.s360_model.specs.Storage.{with_run}
use Rattle.s360_store.specs.declared.place.Place.TheVariants.{Byte}
use Rattle.s360_store.specs.Cells.{AllFit, AreCellsOf, IsFresh, byte_cells, cells_after_exchange}
use Rattle.s360_store.specs.Plans.{IsPlanOf, AddsToPlan, HasBytes, after_put_bytes}
use Rattle.s360_store.proofs.ByteCellLemmas.{AddsToPlan-bytes, after_put_bytes-new}
use Rattle.s360_store.proofs.ExchangeLemmas.{cells_after_exchange-with_value}
use Rattle.s360_store.proofs.PlannedLemmas.{IsPlanOf-none}

-- a byte before them, and the PSW, are none of them
IsFresh-earlier : (x a : ℕ) (bs : List ℕ) → x < a → IsFresh (Byte x) (byte_cells a bs)
IsFresh-earlier x a [] l = tt
IsFresh-earlier x a (b ∷ bs) l = (λ s. let e : x ≡ a = cc in omega (arith, e, l), IsFresh-earlier x (a + 1) bs (omega arith))

-- they make a core with the run
pub IsPlanOf-bytes : (m : Core) (a : ℕ) (bs : List ℕ) → ((i : ℕ) → i < length bs → get_or bs i 0 < 256) → HasBytes a (length bs) m
    → IsPlanOf m (byte_cells a bs) (core_with_bytes a bs m)
IsPlanOf-bytes m a bs fits inside =
    let adds : AddsToPlan [] (after_put_bytes [] a bs) (length bs) (HasBytes a (length bs)) (core_with_bytes a bs) = AddsToPlan-bytes [] a bs fits
    in let are : after_put_bytes [] a bs ≡ byte_cells a bs = after_put_bytes-new [] a bs (λ x l h. tt)
    in rw are at (adds.makes m m inside (IsPlanOf-none m))

-- and get the bytes that stood there
cells-of-run : (m : Core) (a : ℕ) (bs : List ℕ) → HasBytes a (length bs) m → cells_after_exchange m (byte_cells a bs) ≡ byte_cells a (take (length bs) (drop a m.storage.bytes))
cells-of-run m a [] h = refl
cells-of-run m a (b ∷ bs) h =
    let more : drop a m.storage.bytes ≡ get_or m.storage.bytes a 0 ∷ drop (a + 1) m.storage.bytes = drop_more m.storage.bytes a 0 (omega (arith, h))
    in let later : cells_after_exchange m (byte_cells (a + 1) bs) ≡ byte_cells (a + 1) (take (length bs) (drop (a + 1) m.storage.bytes)) = cells-of-run m (a + 1) bs (omega (arith, h))
    in rw (more, cells_after_exchange-with_value m (byte_cells (a + 1) bs) (Byte a) b (IsFresh-earlier a (a + 1) bs (omega arith)), later) refl

pub cells_after_exchange-bytes : (m : Core) (a : ℕ) (bs ts : List ℕ) → HasBytes a (length bs) m → ts ≡ take (length bs) (drop a m.storage.bytes)
    → cells_after_exchange m (byte_cells a bs) ≡ byte_cells a ts
cells_after_exchange-bytes m a bs ts h e = rw e (cells-of-run m a bs h)

-- a byte after them is none of them
pub IsFresh-later : (x a : ℕ) (bs : List ℕ) → a + length bs ≤ x → IsFresh (Byte x) (byte_cells a bs)
IsFresh-later x a [] l = tt
IsFresh-later x a (b ∷ bs) l = (λ s. let e : x ≡ a = cc in omega (arith, e, l), IsFresh-later x (a + 1) bs (omega (arith, l)))

-- a run in place of another, and the other put back
pub with_run-back : (now bytes : List ℕ) (a : ℕ) (bs ts : List ℕ) → a + length bs ≤ length bytes → now ≡ with_run bytes a bs → ts ≡ take (length bs) (drop a bytes) → with_run now a ts ≡ bytes
with_run-back now bytes a bs ts l e t =
    let rest : List ℕ = drop (a + length bs) bytes
    in let first : length (take a bytes) ≡ a = length-take-le a bytes (omega (arith, l))
    in let many : length ts ≡ length bs = ap length t ∙ length-take-le (length bs) (drop a bytes) (omega (arith, l, length-drop a bytes))
    in let both : length (take a bytes ++ bs) ≡ a + length bs = omega (arith, length-append (take a bytes) bs, first)
    in let left : take a (take a bytes ++ bs ++ rest) ≡ take a bytes
    = ap (take a) (append_assoc (take a bytes) bs rest) ∙ take_at (take a bytes) (bs ++ rest) a first
    in let right : drop (a + length ts) (take a bytes ++ bs ++ rest) ≡ rest = drop_at (take a bytes ++ bs) rest (a + length ts) (omega (arith, both, many))
    in let whole : take a bytes ++ take (length bs) (drop a bytes) ++ rest ≡ bytes
    = append_assoc (take a bytes) (take (length bs) (drop a bytes)) rest
    ∙ ap (λ (r : List ℕ). take a bytes ++ (take (length bs) (drop a bytes) ++ r)) (sym (drop-drop (length bs) a bytes))
    ∙ ap (λ (r : List ℕ). take a bytes ++ r) (take-append-drop (length bs) (drop a bytes)) ∙ take-append-drop a bytes
    in rw e (rw (left, right, t) whole)

-- what is known of cells of bytes that can be exchanged
pub run-inside : (m : Core) (a : ℕ) (run : List ℕ) → AreCellsOf m (byte_cells a run) → 0 < length run → HasBytes a (length run) m
run-inside m a [] h s = absurd (omega arith)
run-inside m a (b ∷ []) h s = let w : a < length m.storage.bytes = h.0 in omega arith
run-inside m a (b ∷ (d ∷ run)) h s = let w : HasBytes (a + 1) (length (d ∷ run)) m = run-inside m (a + 1) (d ∷ run) h.3 (omega arith) in omega (arith, w)

pub run-fits : (m : Core) (a : ℕ) (run : List ℕ) → AreCellsOf m (byte_cells a run) → (i : ℕ) → i < length run → get_or run i 0 < 256
run-fits m a [] h i l = absurd (omega arith)
run-fits m a (b ∷ run) h zero l = h.1
run-fits m a (b ∷ run) h (suc i) l = run-fits m (a + 1) run h.3 i (omega arith)

pub AllFit-run : (option : Bool) (a : ℕ) (run : List ℕ) → ((i : ℕ) → i < length run → get_or run i 0 < 256) → AllFit option (byte_cells a run)
AllFit-run option a [] h = tt
AllFit-run option a (b ∷ run) h = (h 0 (omega arith), AllFit-run option (a + 1) run (λ i l. h (suc i) (omega arith)))
