-- What an event alters of the units: it is exchanged with what stands there, and the same exchange done again takes it
-- back (kept). A change alone tells which units it alters.
use Rattle.std.specs.Prelude.{◌≡◌, Option, Some, None, List, [], ◌∷◌, map}
use Rattle.s360_model.specs.Exchanges.{CanIfAny, after_if_any}
use Rattle.s360_store.specs.declared.place.Place.{Place}
use Rattle.s360_channel.specs.declared.{configured_unit.ConfiguredUnit.ConfiguredUnit, unit_change.UnitChange.UnitChange}
use Rattle.s360_channel.specs.ConfiguredUnits.{Units, HasEachUnit, control_of, with_control_of}
use Rattle.s360_channel.specs.Differences.{state_place, unit_differences}

-- it can be exchanged with the units
abbrev pub CanSwapUnits : Units → UnitChange → Type 0
CanSwapUnits us (UnitChange.One u v) = HasEachUnit us
CanSwapUnits us (UnitChange.Attention u asks) = HasEachUnit us
CanSwapUnits us (UnitChange.Several x) = HasEachUnit us × HasEachUnit x.units

-- the units after the exchange, and the change
abbrev pub units_after_swap : Units → UnitChange → Units
units_after_swap us (UnitChange.One u v) = with_control_of us u v
units_after_swap us (UnitChange.Attention u asks) = with_control_of us u (record (control_of us u) { attention = asks })
units_after_swap us (UnitChange.Several x) = x.units

abbrev pub unit_change_after_swap : Units → UnitChange → UnitChange
unit_change_after_swap us (UnitChange.One u v) = UnitChange.One u (control_of us u)
unit_change_after_swap us (UnitChange.Attention u asks) = UnitChange.Attention u (control_of us u).attention
unit_change_after_swap us (UnitChange.Several x) = UnitChange.Several (record x { units = us })

-- the units that it alters, and their places
abbrev pub altered_by : UnitChange → List ConfiguredUnit
altered_by (UnitChange.One u v) = u ∷ []
altered_by (UnitChange.Attention u asks) = u ∷ []
altered_by (UnitChange.Several x) = x.altered

abbrev pub places_of_units : Option UnitChange → List Place
places_of_units None = []
places_of_units (Some x) = map (λ u. state_place u) (altered_by x)

-- the change makes the second units of the first, and is just that of the units that differ
pub record IsUnitsChangeTo (us : Units) (x : Option UnitChange) (vs : Units) : Type 0 where
  pub can : CanIfAny CanSwapUnits us x
  pub makes : after_if_any units_after_swap us x ≡ vs
  pub lists : places_of_units x ≡ unit_differences us vs
