-- What is noted of a recording while it goes back: the places that are wanted, and what an event that is met stored.
use Rattle.std.proofs.Common.{BTreeSet, Global, Vec, ◌≡◌, ◌<◌, ◌+◌, ◌-◌, ◌∙◌, ◌||◌, ◌++◌, ℕ, Bool, true, false, Some, Option, is_some, List, [], ◌∷◌, All, cond, ap, sym, subst, refl, rules, arith, get_or, length, if◌then◌else◌}
use borrow.Author.Tests.{tests}
use Rattle.std.proofs.lemmas.List.Elements.{All-nil, All-push}
use Rattle.std.specs.BTreeSet.{Updates}
use Rattle.std.specs.List.{list_any}
use Rattle.std.specs.Ordering.{is_eq}
use Rattle.s360_store.specs.declared.place.Place.{Place}
use Rattle.s360_store.specs.declared.place.Place.TheVariants.{Psw, Register, Byte, Key, Run, External, UnitState, UnitMedia}
use Rattle.s360_store.proofs.OrderOfPlaces.{compare}
use Rattle.s360_machine.specs.declared.event_kind.EventKind.{EventKind}
use Rattle.s360_journal.specs.Recorded.{Recorded, with_standing}
use Rattle.s360_journal.specs.Returning.{one_back}
use Rattle.s360_inquiry.specs.declared.gathering.Gathering.{Gathering}
use Rattle.s360_inquiry.specs.declared.gathering.Request.{Request}
use Rattle.s360_inquiry.specs.declared.making.LastStore.{LastStore}
use Rattle.s360_inquiry.specs.declared.making.Making.{Making}
use Rattle.s360_inquiry.specs.declared.origin.Origin.{Origin}
use Rattle.s360_inquiry.specs.declared.origin.Origin.TheVariants.{NotFollowed, Start}
use Rattle.s360_inquiry.specs.Causes.{IsMaking, IsStore}
use Rattle.s360_inquiry.specs.Extents.{extent_of, is_in}
use Rattle.s360_inquiry.specs.Changes.{kind_of_change}
use Rattle.s360_inquiry.specs.Gatherings.{Gathers, IsGathering, IsOfEvent, IsRequested, has_key, is_stored, is_wanted, store_of}
use Rattle.s360_inquiry.specs.Origins.{is_followed, origin_by, origin_of_event}
use Rattle.s360_inquiry.specs.Searches.{last_up_to}
use Rattle.s360_inquiry.specs.Stores.{span_in, spanned, stored_next, stores_into}
use Rattle.s360_inquiry.proofs.SearchLemmas.{last-not, last-there}
use Rattle.s360_inquiry.proofs.WhyLemmas.{derived-is}

-- ---- neither of two

neither-right : (a b : Bool) → (a || b) ≡ false → b ≡ false
neither-right true b h = absurd (cc)
neither-right false b h = h

neither-left : (a b : Bool) → (a || b) ≡ false → a ≡ false
neither-left true b h = absurd (cc)
neither-left false b h = refl

-- ---- an event stores none of the places that are wanted

in-same : (q p : Place) → is_in (extent_of q) p ≡ true → q ≡ p
in-same Psw Psw h = refl
in-same (Register n) (Register k) h = ap (λ i. Register i) (search (tests, rules))
in-same (Byte n) (Byte k) h = ap (λ i. Byte i) (search (tests, rules))
in-same (Key n) (Key k) h = ap (λ i. Key i) (search (tests, rules))
in-same Run Run h = refl
in-same External External h = refl
in-same (UnitState u) (UnitState v) h = ap (λ i. UnitState (record { 0 = i })) (search (tests, rules))
in-same (UnitMedia u) (UnitMedia v) h = ap (λ i. UnitMedia (record { 0 = i })) (search (tests, rules))
in-same q p h = absurd (cc)

not-stored : (keys ps : List Place) (q : Place) → is_wanted keys ps ≡ false → has_key keys q ≡ true → is_stored ps q ≡ false
not-stored keys [] q w h = refl
not-stored keys (p ∷ ps) q w h =
    by (is_in (extent_of q) p) refl (not-stored keys ps q (neither-right (has_key keys p) (is_wanted keys ps) w) h) where
      by : (b : Bool) → is_in (extent_of q) p ≡ b → is_stored ps q ≡ false
          → is_some (if b then Some (spanned p (span_in (extent_of q) ps)) else span_in (extent_of q) ps) ≡ false
      by true e more =
          let there : has_key keys p ≡ true = sym (ap (λ (x : Place). has_key keys x) (in-same q p e)) ∙ h
          in let none : has_key keys p ≡ false = neither-left (has_key keys p) (is_wanted keys ps) w
          in absurd (cc)
      by false e more = more

-- ---- what is looked for, one event further back

requested-kept : (r : Recorded) (n : ℕ) (x : Request) → 0 < n → is_stored (stored_next (with_standing r (n - 1))) x.place ≡ false
    → IsRequested r n x → IsRequested r (n - 1) x
requested-kept r n x some none h = (h.0, last-not (stores_into (extent_of x.place) r) n some none ∙ h.1)

store-found : (r : Recorded) (n : ℕ) (x : Request) (origin : Origin) → 0 < n → is_stored (stored_next (with_standing r (n - 1))) x.place ≡ true
    → IsRequested r n x → origin ≡ origin_by r (Some n) → IsStore r (store_of x origin)
store-found r n x origin some is h told =
    let last : Some n ≡ last_up_to (stores_into (extent_of x.place) r) x.moment = last-there (stores_into (extent_of x.place) r) n n some refl is ∙ h.1
    in told
    ∙ ap (λ (o : Option ℕ). origin_by r o) last
    ∙ sym (ap (λ (b : Bool). if b then origin_by r (last_up_to (stores_into (extent_of x.place) r) x.moment) else NotFollowed) h.0)

store-start : (r : Recorded) (x : Request) → IsRequested r 0 x → IsStore r (store_of x Start)
store-start r x h =
    ap (λ (o : Option ℕ). origin_by r o) h.1
    ∙ sym (ap (λ (b : Bool). if b then origin_by r (last_up_to (stores_into (extent_of x.place) r) x.moment) else NotFollowed) h.0)

-- nothing is found at an event that stores nothing that is wanted
gathering-kept : (r : Recorded) (n : ℕ) (g : Gathering) → 0 < n → is_wanted g.wanted.keys (stored_next (with_standing r (n - 1))) ≡ false
    → IsGathering r n g → IsGathering r (n - 1) g
gathering-kept r n g some none h = record {
  makings = h.makings;
  stores = h.stores;
  requests = λ k d lt.
      requested-kept r n (get_or g.requests.items k d) some
      (not-stored g.wanted.keys (stored_next (with_standing r (n - 1))) (get_or g.requests.items k d).place none (h.wanted k d lt)) (h.requests k d lt);
  wanted = h.wanted;
}

-- ---- one thing more is noted or looked for, or nothing

All-more : {X : Type 0} (P : X → Type 0) (xs ys : List X) (x : X) → ys ≡ xs ++ x ∷ [] → All P xs → P x → All P ys
All-more P xs ys x more all is = subst (λ zs. All P zs) (sym more) (All-push P xs x all is)

All-none : {X : Type 0} (P : X → Type 0) (ys : List X) → ys ≡ [] → All P ys
All-none P ys none = subst (λ zs. All P zs) (sym none) (All-nil P)

pub making-more : (r : Recorded) (n : ℕ) (g : Gathering) (ms : Vec Making Global) (m : Making) → ms.items ≡ g.makings.items ++ m ∷ [] → IsGathering r n g
    → IsMaking r m → IsGathering r n (record g { makings = ms })
making-more r n g ms m more was is = record {
  makings = All-more (IsMaking r) g.makings.items ms.items m more was.makings is;
  stores = was.stores;
  requests = was.requests;
  wanted = was.wanted;
}

pub store-more : (r : Recorded) (n : ℕ) (g : Gathering) (ss : Vec LastStore Global) (s : LastStore) → ss.items ≡ g.stores.items ++ s ∷ [] → IsGathering r n g
    → IsStore r s → IsGathering r n (record g { stores = ss })
store-more r n g ss s more was is = record {
  makings = was.makings;
  stores = All-more (IsStore r) g.stores.items ss.items s more was.stores is;
  requests = was.requests;
  wanted = was.wanted;
}

-- the derived order finds a key where the order by kind and number does
has-same : (keys : List Place) (p : Place) → list_any (λ key. is_eq (compare p key)) keys ≡ has_key keys p
has-same [] p = refl
has-same (k ∷ ks) p = rw (derived-is p k, has-same ks p) refl

-- one of the keys that were there, or of those there are now
kept : (b c : Bool) → c ≡ true → cond b true c ≡ true
kept true c h = refl
kept false c h = h

pub request-more : (r : Recorded) (n : ℕ) (g : Gathering) (qs : Vec Request Global) (places : BTreeSet Place) (x : Request)
    → qs.items ≡ g.requests.items ++ x ∷ [] → Updates compare g.wanted places x.place true → IsGathering r n g → IsRequested r n x
    → IsGathering r n (record g { requests = qs; wanted = places })
request-more r n g qs places x more keys was is =
    let Has : Request → Type 0 = λ (q : Request). has_key places.keys q.place ≡ true
    in record {
      makings = was.makings;
      stores = was.stores;
      requests = All-more (IsRequested r n) g.requests.items qs.items x more was.requests is;
      wanted = All-more Has g.requests.items qs.items x more
          (λ k d lt.
          sym (has-same places.keys (get_or g.requests.items k d).place)
          ∙ keys.0 (get_or g.requests.items k d).place
          ∙ kept _ _ (has-same g.wanted.keys (get_or g.requests.items k d).place ∙ was.wanted k d lt)) (sym (has-same places.keys x.place) ∙ keys.1);
    }

-- nothing is looked for
pub none-requested : (r : Recorded) (n : ℕ) (g : Gathering) (qs : Vec Request Global) (places : BTreeSet Place) → qs.items ≡ [] → IsGathering r n g
    → IsGathering r (n - 1) (record g { requests = qs; wanted = places })
none-requested r n g qs places none was = record {
  makings = was.makings;
  stores = was.stores;
  requests = All-none (IsRequested r (n - 1)) qs.items none;
  wanted = All-none (λ (q : Request). has_key places.keys q.place ≡ true) qs.items none;
}

-- ---- those that were looked for, one after another

-- what stands behind the end of a list of these
abbrev pub no_request : Request
no_request = record { place = Psw; moment = 0; making = 0; depth = 0 }

abbrev pub request_at : List Request → ℕ → Request
request_at qs k = get_or qs k no_request

request-there : (r : Recorded) (n : ℕ) (old : Gathering) (qs : List Request) (k : ℕ) → k < length qs → qs ≡ old.requests.items → IsGathering r n old
    → IsRequested r n (request_at qs k)
request-there r n old qs k inside same was =
    let all : All (IsRequested r n) qs = subst (λ (xs : List Request). All (IsRequested r n) xs) (sym same) was.requests
    in all k no_request inside

-- it was there from the start, or an event stored it, or it is looked for still
pub start-there : (r : Recorded) (old : Gathering) (qs : List Request) (k : ℕ) → k < length qs → qs ≡ old.requests.items → IsGathering r 0 old
    → IsStore r (store_of (request_at qs k) Start)
start-there r old qs k inside same was = store-start r (request_at qs k) (request-there r 0 old qs k inside same was)

pub found-there : (r : Recorded) (n : ℕ) (old : Gathering) (qs : List Request) (k : ℕ) (stored : List Place) (origin : Origin) → k < length qs
    → qs ≡ old.requests.items → is_stored stored (request_at qs k).place ≡ true → IsOfEvent r n stored origin → IsGathering r n old
    → IsStore r (store_of (request_at qs k) origin)
found-there r n old qs k stored origin inside same here of was =
    store-found r n (request_at qs k) origin of.some (sym (ap (λ (ps : List Place). is_stored ps (request_at qs k).place) of.places) ∙ here)
    (request-there r n old qs k inside same was) of.is

pub left-there : (r : Recorded) (n : ℕ) (old : Gathering) (qs : List Request) (k : ℕ) (stored : List Place) (origin : Origin) → k < length qs
    → qs ≡ old.requests.items → is_stored stored (request_at qs k).place ≡ false → IsOfEvent r n stored origin → IsGathering r n old
    → IsRequested r (n - 1) (request_at qs k)
left-there r n old qs k stored origin inside same here of was =
    requested-kept r n (request_at qs k) of.some (sym (ap (λ (ps : List Place). is_stored ps (request_at qs k).place) of.places) ∙ here)
    (request-there r n old qs k inside same was)

-- a place that is followed is looked for from where the recording stands on
pub requested-now : (r x : Recorded) (place : Place) (moment : ℕ) → x ≡ r → moment ≡ x.standing → is_followed place ≡ true
    → IsRequested (with_standing r 0) r.standing (record no_request { place = place; moment = moment })
requested-now r x place moment same now followed =
    let here : moment ≡ r.standing = now ∙ ap (λ (y : Recorded). y.standing) same
    in (followed, ap (λ (n : ℕ). last_up_to (stores_into (extent_of place) (with_standing r 0)) n) (sym here))

-- ---- an event that is met

event-there : (r : Recorded) (stored : List Place) (number : ℕ) (kind : Option EventKind) (origin : Origin) → stored ≡ stored_next r
    → number ≡ r.standing + 1 → kind ≡ kind_of_change r number → origin ≡ origin_of_event number kind → IsOfEvent (with_standing r 0) number stored origin
event-there r stored number kind origin is next of told =
    let before : number - 1 ≡ r.standing = omega (arith, next)
    in record {
      some = omega (arith, next);
      places = is ∙ sym (ap (λ (k : ℕ). stored_next (with_standing r k)) before);
      is = told ∙ ap (λ (k : Option EventKind). origin_of_event number k) of;
    }

pub meets-none : (r : Recorded) (g : Gathering) (stored : List Place) (number : ℕ) → stored ≡ stored_next r → number ≡ r.standing + 1
    → is_wanted g.wanted.keys stored ≡ false → Gathers r number g g
meets-none r g stored number is next none = λ was.
    let before : number - 1 ≡ r.standing = omega (arith, next)
    in let there : stored ≡ stored_next (with_standing r (number - 1)) = is ∙ sym (ap (λ (k : ℕ). stored_next (with_standing r k)) before)
    in subst (λ (k : ℕ). IsGathering (with_standing r 0) k g) before
    (gathering-kept (with_standing r 0) number g (omega (arith, next)) (sym (ap (λ (ps : List Place). is_wanted g.wanted.keys ps) there) ∙ none) was)

pub meets-some : (r : Recorded) (g h : Gathering) (stored : List Place) (number : ℕ) (kind : Option EventKind) (origin : Origin) → stored ≡ stored_next r
    → number ≡ r.standing + 1 → kind ≡ kind_of_change r number → origin ≡ origin_of_event number kind
    → ((q : Recorded) (n : ℕ) → IsOfEvent q n stored origin → IsGathering q n g → IsGathering q (n - 1) h) → Gathers r number g h
meets-some r g h stored number kind origin is next of told taken = λ was.
    let before : number - 1 ≡ r.standing = omega (arith, next)
    in subst (λ (k : ℕ). IsGathering (with_standing r 0) k h) before
    (taken (with_standing r 0) number (event-there r stored number kind origin is next of told) was)

-- ---- the whole way back

pub gather-more : (r x : Recorded) (b number : ℕ) (g h : Gathering) → x ≡ with_standing r (b - 1) → number ≡ b → Gathers x number g h
    → IsGathering (with_standing r 0) b g → IsGathering (with_standing r 0) (b - 1) h
gather-more r x b number g h there next meets was =
    let same : with_standing x 0 ≡ with_standing r 0 = ap (λ (z : Recorded). with_standing z 0) there
    in subst (λ (k : ℕ). IsGathering (with_standing r 0) k h) (ap (λ (z : Recorded). z.standing) there)
    (subst (λ (z : Recorded). IsGathering z x.standing h) same
    (meets (subst (λ (k : ℕ). IsGathering (with_standing x 0) k g) (sym next) (subst (λ (z : Recorded). IsGathering z b g) (sym same) was))))

pub back-there : (r y x : Recorded) (b : ℕ) → y ≡ with_standing r b → x ≡ one_back y → x ≡ with_standing r (b - 1)
back-there r y x b here back = back ∙ ap (λ (z : Recorded). one_back z) here
