-- What is asked of a row, and that a walk over it finds that (ours).
use Rattle.std.specs.Prelude.{◌≡◌, Bool, true, List, [], ◌∷◌, is_some}
use Rattle.s360_store.specs.declared.place.Place.{Place}
use Rattle.s360_store.specs.declared.place.Place.TheVariants.{UnitMedia}
use Rattle.s360_channel.specs.ConfiguredUnits.{unit_at}
use Rattle.s360_machine.specs.Machine.{Machine}
use Rattle.s360_footprint.specs.Rows.{Row, deciders, sources, stored}
use Rattle.s360_source.specs.declared.question.Question.{Question}
use Rattle.s360_source.specs.Walks.{walked}

abbrev pub answer : {Ending : Type 0} → Question → Row Ending → Machine → List Place
answer Question.Deciders row m = deciders row m
answer Question.Stored row m = stored row m
answer (Question.Sources p) row m = sources row m p

-- what is found before the walk: a place that is not stored is made of itself
abbrev pub begun : Question → List Place
begun (Question.Sources p) = p ∷ []
begun question = []

-- the place whose sources are asked for is no device of a unit that the machine lacks
abbrev pub is_of_unit : Place → Bool
is_of_unit (UnitMedia u) = is_some (unit_at u.0)
is_of_unit p = true

abbrev pub IsAsked : Question → Type 0
IsAsked (Question.Sources p) = is_of_unit p ≡ true
IsAsked question = Unit {0}

abbrev pub WalksAnswer : Type 0 → Type 0
WalksAnswer Ending =
    (question : Question) (row : Row Ending) (m : Machine) → IsAsked question → walked question row m (begun question) ≡ answer question row m
