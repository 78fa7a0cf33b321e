-- The chain of causes: places in their order, what was noted of a recording, and the nodes that are told.
use Rattle.std.proofs.Common.{◌≡◌, ◌<◌, ◌+◌, ◌++◌, ℕ, get_or, List, [], ◌∷◌, ap, sym, ◌∙◌, refl, length, take, flat_map}
use Rattle.std.proofs.lemmas.List.{append-nil, take_more}
use Rattle.std.proofs.lemmas.Grind.{flat_map-append, fold-append}
use Rattle.std.specs.BTreeSet.{insert_key}
use Rattle.s360_store.specs.declared.place.Place.{Place}
use Rattle.s360_store.specs.declared.place.Place.TheVariants.{Psw, Register, Byte, Key, Run, External, UnitState, UnitMedia}
use Rattle.s360_store.proofs.OrderOfPlaces.{compare}
use Rattle.s360_journal.specs.Recorded.{Recorded, with_standing}
use Rattle.s360_inquiry.specs.Causes.{order_of, with_places}

-- ---- places in their order, each once

-- the derived order is the one by kind and number
pub derived-is : (p q : Place) → compare p q ≡ order_of p q
derived-is Psw Psw = refl
derived-is (Register n) (Register k) = refl
derived-is (Byte n) (Byte k) = refl
derived-is (Key n) (Key k) = refl
derived-is Run Run = refl
derived-is External External = refl
derived-is (UnitState u) (UnitState v) = refl
derived-is (UnitMedia u) (UnitMedia v) = refl
derived-is p q = refl

pub insert-same : (ks : List Place) (p : Place) → insert_key compare ks p ≡ insert_key order_of ks p
insert-same [] p = refl
insert-same (k ∷ ks) p = rw (derived-is p k, insert-same ks p) refl

-- a place more of a list
pub inserted-more : (old keys new ps : List Place) (i : ℕ) (p d : Place) → i < length ps → p ≡ get_or ps i d
    → keys ≡ with_places old (take i ps) → new ≡ insert_key compare keys p → new ≡ with_places old (take (i + 1) ps)
inserted-more old keys new ps i p d inside is before after =
    after
    ∙ insert-same keys p
    ∙ ap (λ (ks : List Place). insert_key order_of ks p) before
    ∙ ap (λ (x : Place). insert_key order_of (with_places old (take i ps)) x) is
    ∙ sym (fold-append (insert_key order_of) old (take i ps) (get_or ps i d ∷ []))
    ∙ ap (λ (xs : List Place). with_places old xs) (sym (take_more ps i d inside))

-- the sources of a place more
pub sources-more : (sources : Place → List Place) (keys new ps : List Place) (i : ℕ) (p d : Place) → i < length ps → p ≡ get_or ps i d
    → keys ≡ with_places [] (flat_map sources (take i ps)) → new ≡ with_places keys (sources p)
    → new ≡ with_places [] (flat_map sources (take (i + 1) ps))
sources-more sources keys new ps i p d inside is before after =
    let more : flat_map sources (take (i + 1) ps) ≡ flat_map sources (take i ps) ++ sources (get_or ps i d) =
    ap (λ (xs : List Place). flat_map sources xs) (take_more ps i d inside)
    ∙ flat_map-append sources (take i ps) (get_or ps i d ∷ [])
    ∙ ap (λ (t : List Place). flat_map sources (take i ps) ++ t) (append-nil (sources (get_or ps i d)))
    in after
    ∙ ap (λ (ks : List Place). with_places ks (sources p)) before
    ∙ ap (λ (x : Place). with_places (with_places [] (flat_map sources (take i ps))) (sources x)) is
    ∙ sym (fold-append (insert_key order_of) [] (flat_map sources (take i ps)) (sources (get_or ps i d)))
    ∙ ap (λ (xs : List Place). with_places [] xs) (sym more)

-- ---- a recording that goes elsewhere in its record

pub kept-more : (r x y : Recorded) (n : ℕ) → x ≡ with_standing r x.standing → y ≡ with_standing x n → y ≡ with_standing r y.standing
kept-more r x y n here there =
    let gone : y ≡ with_standing r n = there ∙ ap (λ (z : Recorded). with_standing z n) here
    in gone ∙ ap (λ (k : ℕ). with_standing r k) (sym (ap (λ (z : Recorded). z.standing) gone))

pub same-record : (r x : Recorded) → x ≡ with_standing r x.standing → with_standing x 0 ≡ with_standing r 0
same-record r x here = ap (λ (z : Recorded). with_standing z 0) here
