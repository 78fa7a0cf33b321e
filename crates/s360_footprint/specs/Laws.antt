-- The laws of rows (ours).
use Rattle.std.specs.Prelude.{◌≡◌, false}
use Rattle.s360_store.specs.declared.place.Place.{Place}
use Rattle.s360_store.specs.Places.{is_among}
use Rattle.s360_machine.specs.Machine.{Machine}
use Rattle.s360_footprint.specs.Readings.{AreAllThere, HaveAllSame, run}
use Rattle.s360_footprint.specs.Rows.{Row, after, deciders, sources, stored}
use Rattle.s360_footprint.specs.Sequences.{all_read, sequence}
use Rattle.s360_footprint.specs.Values.{AreAlike, value_there}

-- a place that is not stored keeps its value
abbrev pub KeepsOthers : Type 0 → Type 0
KeepsOthers Ending =
    (row : Row Ending) (m : Machine) (p : Place) → is_among (stored row m) p ≡ false → value_there (after row m) p ≡ value_there m p

-- where two machines have the same at the deciders, the row does the same in both, and has the same deciders
abbrev pub Decided : Type 0 → Type 0
Decided Ending =
    (row : Row Ending) (m n : Machine) → HaveAllSame m n (deciders row m)
    → (run row m ≡ run row n) × (deciders row m ≡ deciders row n)

-- where a row does the same in two machines of one size and profile, and they have the same at the sources of a place, they have the same there afterwards
abbrev pub Follows : Type 0 → Type 0
Follows Ending =
    (row : Row Ending) (m n : Machine) (p : Place) → AreAlike m n → run row m ≡ run row n
    → HaveAllSame m n (sources row m p) → value_there (after row m) p ≡ value_there (after row n) p

-- a sequence does what its two rows do one after another, where the machine has each place that the second reads
pub record IsSequence {First Ending : Type 0} (first : Row First) (second : First → Row Ending) (m : Machine) : Type 0 where
  pub machine : after (sequence first second) m ≡ after (second (run first m).ended) (after first m)
  pub ended : (run (sequence first second) m).ended ≡ (run (second (run first m).ended) (after first m)).ended

abbrev pub SequencesAreRows : Type 0 → Type 0 → Type 0
SequencesAreRows First Ending =
    (first : Row First) (second : First → Row Ending) (m : Machine)
    → AreAllThere m (all_read (second (run first m).ended) (after first m)) → IsSequence first second m
