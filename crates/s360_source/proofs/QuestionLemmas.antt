-- Stores into successive bytes, of which one is asked for.
use Rattle.std.proofs.Common.{ℕ, zero, suc, ◌+◌, ◌-◌, ◌≡◌, ◌≤◌, ◌∙◌, ◌&&◌, Bool, true, false, cond, nat_eq, nat_le, nat_lt, List, refl, sym, ap, arith}
use Rattle.std.proofs.lemmas.Bool.{eqb-true, eqb-false, leb-true, ltb-true, ltb-false, le-leb, lt-ltb, le-ltb}
use Rattle.s360_store.specs.declared.place.Place.{Place}
use Rattle.s360_store.specs.declared.place.Place.TheVariants.{Byte}
use Rattle.s360_source.specs.declared.question.Question.{Question}
use Rattle.s360_source.specs.Walks.{is_one_of, with_bytes}

-- one byte more, which is another one
next-lower : (k n : ℕ) → (k ≡ n → ⊥) → (z : Bool) → nat_lt k n ≡ z → nat_lt k (suc n) ≡ z
next-lower k n other true e = lt-ltb k (suc n) (omega (arith, ltb-true k n e))
next-lower k n other false e = le-ltb k (suc n) (omega (arith, ltb-false k n e, other))

one-more : (at a n : ℕ) → (a + n ≡ at → ⊥) → (z : Bool) → nat_le a at ≡ z → (z && nat_lt (at - a) (suc n)) ≡ (z && nat_lt (at - a) n)
one-more at a n other true e =
    let l : a ≤ at = leb-true a at e
    in next-lower (at - a) n (λ k. other (omega (arith, l, k))) (nat_lt (at - a) n) refl
one-more at a n other false e = refl

byte-asked : (at a n : ℕ) (ps found : List Place)
    → cond (nat_le a at && nat_lt (at - a) n) ps found ≡ with_bytes (Question.Sources (Byte at)) a n ps found
byte-asked at a zero ps found = by (nat_le a at) where
  by : (z : Bool) → cond (z && nat_lt (at - a) zero) ps found ≡ found
  by true = ap (λ z. cond z ps found) (le-ltb (at - a) zero (omega arith))
  by false = refl
byte-asked at a (suc n) ps found = by (nat_eq (a + n) at) refl (byte-asked at a n ps found) where
  by : (z : Bool) → nat_eq (a + n) at ≡ z
      → cond (nat_le a at && nat_lt (at - a) n) ps found ≡ with_bytes (Question.Sources (Byte at)) a n ps found
      → cond (nat_le a at && nat_lt (at - a) (suc n)) ps found ≡ cond z ps (with_bytes (Question.Sources (Byte at)) a n ps found)
  by true e i =
      let f : a + n ≡ at = eqb-true (a + n) at e
      in ap (λ z. cond (z && nat_lt (at - a) (suc n)) ps found) (le-leb a at (omega (arith, f)))
      ∙ ap (λ z. cond z ps found) (lt-ltb (at - a) (suc n) (omega (arith, f)))
  by false e i = ap (λ z. cond z ps found) (one-more at a n (eqb-false (a + n) at e) (nat_le a at) refl) ∙ i

-- the one that is asked for gets the sources of all, if it is among them
pub bytes-asked : (p : Place) (a n : ℕ) (ps found : List Place) → cond (is_one_of p a n) ps found ≡ with_bytes (Question.Sources p) a n ps found
bytes-asked (Byte at) a n ps found = byte-asked at a n ps found
bytes-asked p a zero ps found = refl
bytes-asked p a (suc n) ps found = bytes-asked p a n ps found

pub bytes-told : (q : Question) (p : Place) (a n at count : ℕ) (z : Bool) (ps found : List Place) → q ≡ Question.Sources p → at ≡ a → count ≡ n
    → z ≡ is_one_of p at count → cond z ps found ≡ with_bytes q a n ps found
bytes-told q p a n at count z ps found e f g h =
    ap (λ z. cond z ps found) h ∙ bytes-asked p at count ps found
    ∙ ap (λ k. with_bytes (Question.Sources p) at k ps found) g ∙ ap (λ k. with_bytes (Question.Sources p) k n ps found) f
    ∙ ap (λ x. with_bytes x a n ps found) (sym e)
