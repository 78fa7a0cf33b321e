-- The last changes of watched bytes, byte by byte and watch by watch.
use Rattle.std.proofs.Common.{◌≡◌, ◌<◌, ◌+◌, ◌∙◌, ℕ, zero, suc, Bool, true, false, cond, List, [], ◌∷◌, Some, refl, ap, sym, subst, arith, length, drop, get_or, nat_eq}
use Rattle.std.specs.List.{filter, fold, items_where_true, range_with_len}
use Rattle.std.specs.List.Retain.{IsFiltered, ReturnsInTurn}
use Rattle.s360_packet.specs.declared.request.Watchpoint.{Watchpoint}
use Rattle.s360_journal.specs.Standing.{Standing}
use Rattle.s360_remote.specs.Accesses.{Accesses, byte_accessed, is_accessed}
use Rattle.s360_remote.specs.declared.points.Met.{Met}
use Rattle.s360_remote.specs.Points.{Watched, byte_altered_by, last_change_at, with_altered}

-- the bytes that remain, the first of them apart
pub range-more : (at n m : ℕ) → n ≡ m + 1 → range_with_len at n ≡ at ∷ range_with_len (at + 1) m
range-more at n m h = let same : n ≡ suc m = omega (arith, h) in ap (λ k. range_with_len at k) same

-- ---- one byte more

pub altered-next : (s : Standing) (number at n m : ℕ) (b : Bool) → n ≡ m + 1 → nat_eq (last_change_at s at) number ≡ b
    → byte_altered_by s (range_with_len at n) number ≡ cond b (Some at) (byte_altered_by s (range_with_len (at + 1) m) number)
altered-next s number at n m b more is =
    ap (λ l. byte_altered_by s l number) (range-more at n m more) ∙ ap (λ x. cond x (Some at) (byte_altered_by s (range_with_len (at + 1) m) number)) is

pub accessed-next : (x : Accesses) (watchpoint : Watchpoint) (at n m : ℕ) (b : Bool) → n ≡ m + 1 → is_accessed x watchpoint at ≡ b
    → byte_accessed x watchpoint (range_with_len at n) ≡ cond b (Some at) (byte_accessed x watchpoint (range_with_len (at + 1) m))
accessed-next x watchpoint at n m b more is =
    ap (λ l. byte_accessed x watchpoint l) (range-more at n m more)
    ∙ ap (λ y. cond y (Some at) (byte_accessed x watchpoint (range_with_len (at + 1) m))) is

-- ---- one watch more

at-index : (ws : List Watched) (i : ℕ) (w : Watched) → i < length ws → w ≡ get_or ws i w → drop i ws ≡ w ∷ drop (i + 1) ws
at-index [] i w h is = absurd (omega (arith, h))
at-index (v ∷ ws) zero w h is = ap (λ x. x ∷ ws) (sym is)
at-index (v ∷ ws) (suc i) w h is = let more : suc i + 1 ≡ suc (i + 1) = omega arith in at-index ws i w (omega (arith, h)) is ∙ ap (λ k. w ∷ drop k (v ∷ ws)) (sym more)

pub altered-watch : (s : Standing) (number : ℕ) (ws : List Watched) (i : ℕ) (w : Watched) (told more : List Met) → i < length ws → w ≡ get_or ws i w → more ≡ with_altered s number told w
    → fold (λ t v. with_altered s number t v) told (drop i ws) ≡ fold (λ t v. with_altered s number t v) more (drop (i + 1) ws)
altered-watch s number ws i w told more h is same =
    ap (λ vs. fold (λ t v. with_altered s number t v) told vs) (at-index ws i w h is) ∙ ap (λ t. fold (λ t v. with_altered s number t v) t (drop (i + 1) ws)) (sym same)

-- ---- what stays of a vector

module _ {X P : Type 0} (R : P → X → Bool → P → Type 0) (test : X → Bool) (f : P) (says : (x : X) (b : Bool) (g : P) → R f x b g → (b ≡ test x) × (g ≡ f)) where
  first-by : (x : X) (bs : List Bool) (xs : List X) (b t : Bool) → b ≡ t → items_where_true bs xs ≡ filter test xs → items_where_true (b ∷ bs) (x ∷ xs) ≡ cond t (x ∷ filter test xs) (filter test xs)
  first-by x bs xs true t is rest = ap (λ l. x ∷ l) rest ∙ ap (λ a. cond a (x ∷ filter test xs) (filter test xs)) is
  first-by x bs xs false t is rest = rest ∙ ap (λ a. cond a (x ∷ filter test xs) (filter test xs)) is

  told-by : (q : P) (bs : List Bool) (xs : List X) → length bs ≡ length xs → ReturnsInTurn R f bs xs q → items_where_true bs xs ≡ filter test xs
  told-by q [] [] same h = refl
  told-by q [] (x ∷ xs) same h = absurd (omega (arith, same))
  told-by q (b ∷ bs) [] same h = absurd h
  told-by q (b ∷ bs) (x ∷ xs) same h =
      let said = says x b h.0 h.1
      in first-by x bs xs b (test x) said.0 (told-by q bs xs (omega (arith, same)) (subst (λ g. ReturnsInTurn R g bs xs q) said.1 h.2))

  -- where no call changes the closure, `retain` leaves what passes the test
  pub filter-from_retained : (xs ys : List X) → IsFiltered R f xs ys → ys ≡ filter test xs
  filter-from_retained xs ys h = h.4 ∙ told-by h.1 h.0 xs h.2 h.3
