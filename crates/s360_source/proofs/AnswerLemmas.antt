-- What a walk over a row finds is what was asked of the row.
use Rattle.std.proofs.Common.{ℕ, ◌≡◌, ◌∙◌, ◌++◌, Bool, true, false, cond, nat_eq, Option, Some, None, List, [], ◌∷◌, refl, sym, ap, subst}
use Rattle.std.specs.Prelude.{is_some}
use Rattle.std.proofs.lemmas.Bool.{eqb-true}
use Rattle.std.proofs.lemmas.List.{append_assoc, append-nil}
use Rattle.s360_store.specs.declared.place.Place.{Place}
use Rattle.s360_store.specs.declared.place.Place.TheVariants.{Psw, Register, Byte, Key, Run, External, UnitState, UnitMedia}
use Rattle.s360_store.specs.Places.{same_place}
use Rattle.s360_channel.specs.declared.configured_unit.ConfiguredUnit.{ConfiguredUnit}
use Rattle.s360_channel.specs.declared.configured_unit.ConfiguredUnit.TheVariants.{Reader, Punch, Printer, Console, Tape0, Tape1}
use Rattle.s360_channel.specs.ConfiguredUnits.{unit_at}
use Rattle.s360_machine.specs.Machine.{Machine}
use Rattle.s360_footprint.specs.Readings.{Reading, places_read, run, value_read}
use Rattle.s360_footprint.specs.Rows.{Store, after_store, after_stores, device_after, places_of_stores}
use Rattle.s360_footprint.specs.Values.{DeviceAt, Value}
use Rattle.s360_footprint.proofs.ValueLemmas.{apart}
use Rattle.s360_source.specs.declared.question.Question.{Question}
use Rattle.s360_source.specs.Answers.{WalksAnswer, is_of_unit}
use Rattle.s360_source.specs.Walks.{with_stores_of}

-- the devices of one unit, and of two
same-media : (o : Option ConfiguredUnit) (v r : Reading (DeviceAt o)) (m : Machine) → is_some o ≡ true
    → places_read (device_after o o v r) m ≡ places_read v m
same-media (Some Reader) v r m h = refl
same-media (Some Punch) v r m h = refl
same-media (Some Printer) v r m h = refl
same-media (Some Console) v r m h = refl
same-media (Some Tape0) v r m h = refl
same-media (Some Tape1) v r m h = refl
same-media None v r m h = absurd (cc)

other-media : (a b : ℕ) (o p : Option ConfiguredUnit) (v : Reading (DeviceAt o)) (r : Reading (DeviceAt p)) (m : Machine) → unit_at a ≡ o → unit_at b ≡ p
    → nat_eq a b ≡ false → places_read (device_after o p v r) m ≡ places_read r m
other-media a b (Some Reader) (Some Reader) v r m e f h = absurd (apart a b Reader Reader e f h refl)
other-media a b (Some Punch) (Some Punch) v r m e f h = absurd (apart a b Punch Punch e f h refl)
other-media a b (Some Printer) (Some Printer) v r m e f h = absurd (apart a b Printer Printer e f h refl)
other-media a b (Some Console) (Some Console) v r m e f h = absurd (apart a b Console Console e f h refl)
other-media a b (Some Tape0) (Some Tape0) v r m e f h = absurd (apart a b Tape0 Tape0 e f h refl)
other-media a b (Some Tape1) (Some Tape1) v r m e f h = absurd (apart a b Tape1 Tape1 e f h refl)
other-media a b o p v r m e f h = refl

media-places : (a b : ℕ) (o p : Option ConfiguredUnit) (v : Reading (DeviceAt o)) (r : Reading (DeviceAt p)) (m : Machine) (z : Bool) → unit_at a ≡ o
    → unit_at b ≡ p → nat_eq a b ≡ z → is_some p ≡ true → places_read (device_after o p v r) m ≡ cond z (places_read v m) (places_read r m)
media-places a b o p v r m true e f h s =
    let same : o ≡ p = sym e ∙ ap unit_at (eqb-true a b h) ∙ f
    in subst (λ (k : Option ConfiguredUnit). (x : Reading (DeviceAt k)) → places_read (device_after o k v x) m ≡ places_read v m) same
    (λ x. same-media o v x m (ap is_some same ∙ s)) r
media-places a b o p v r m false e f h s = other-media a b o p v r m e f h

-- the places that a value is read of after a store
chosen : {X : Type 0} (z : Bool) (v r : Reading X) (m : Machine) → places_read (cond z v r) m ≡ cond z (places_read v m) (places_read r m)
chosen true v r m = refl
chosen false v r m = refl

store-places : (q p : Place) (v : Reading (Value q)) (r : Reading (Value p)) (m : Machine) → is_of_unit p ≡ true
    → places_read (after_store q p v r) m ≡ cond (same_place q p) (places_read v m) (places_read r m)
store-places Psw Psw v r m h = refl
store-places (Register n) (Register k) v r m h = chosen (nat_eq n k) v r m
store-places (Byte n) (Byte k) v r m h = chosen (nat_eq n k) v r m
store-places (Key n) (Key k) v r m h = chosen (nat_eq n k) v r m
store-places Run Run v r m h = refl
store-places External External v r m h = refl
store-places (UnitState u) (UnitState w) v r m h = chosen (nat_eq u.0 w.0) v r m
store-places (UnitMedia u) (UnitMedia w) v r m h = media-places u.0 w.0 (unit_at u.0) (unit_at w.0) v r m (nat_eq u.0 w.0) refl refl refl h
store-places q p v r m h = refl

-- over all stores
pub nothing-decided : (m : Machine) (ss : List Store) (found : List Place) → with_stores_of Question.Deciders m ss found ≡ found
nothing-decided m [] found = refl
nothing-decided m (s ∷ ss) found = nothing-decided m ss found

places-stored : (m : Machine) (ss : List Store) (found : List Place) → with_stores_of Question.Stored m ss found ≡ found ++ places_of_stores ss
places-stored m [] found = sym (append-nil found)
places-stored m (s ∷ ss) found = places-stored m ss (found ++ s.place ∷ []) ∙ append_assoc found (s.place ∷ []) (places_of_stores ss)

pub sources-found : (p : Place) (m : Machine) (ss : List Store) (r : Reading (Value p)) → is_of_unit p ≡ true
    → with_stores_of (Question.Sources p) m ss (places_read r m) ≡ places_read (after_stores ss p r) m
sources-found p m [] r h = refl
sources-found p m (s ∷ ss) r h =
    ap (with_stores_of (Question.Sources p) m ss) (sym (store-places s.place p s.value r m h)) ∙ sources-found p m ss (after_store s.place p s.value r) h

pub walks-answer : (Ending : Type 0) → WalksAnswer Ending
walks-answer Ending Question.Deciders row m h = nothing-decided m (run row m).stores (places_read row m)
walks-answer Ending Question.Stored row m h = places-stored m (run row m).stores []
walks-answer Ending (Question.Sources p) row m h = sources-found p m (run row m).stores (value_read p) h
