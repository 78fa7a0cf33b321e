-- What takes the puts of an event, by what its puts so far make, whether they may be made, the places that they
-- have left, and their number (kept).
use Rattle.std.specs.Prelude.{◌≡◌, ℕ}
use Rattle.s360_model.specs.Core.{Core}
use Rattle.s360_store.specs.declared.place.Place.{Place}

-- there is no put yet: each place of the core may still be put
pub record HasNoPuts (m : Core) (made : Core → Core) (may : Core → Type 0) (past : Place → Type 0) (count : ℕ) : Type 0 where
  pub same : made m ≡ m
  pub allowed : may m
  pub any : (q : Place) → past q
  pub none : count ≡ 0
