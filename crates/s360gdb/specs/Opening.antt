-- How files are opened that are to be written (own profile).
use Rattle.std.specs.Prelude.{◌≡◌, ◌⊎◌, ℕ, Bool, true, false, Option, Some, None, List, [], ◌∷◌, ◌++◌, Result, Ok, Err, IsUtf8}
use Rattle.std.specs.Fs.{new_options, with_create, with_create_new, with_truncate, with_write}
use Rattle.std.specs.declared.fs.options.OpenOptions.{OpenOptions}
use Rattle.s360_saving.specs.declared.outcome.SaveFault.{SaveFault}
use Rattle.s360_saving.specs.declared.outcome.SaveFault.TheVariants.{CannotOpen, Exists, WriteFailed}

-- a file is opened for writing: one that may be written over is made if it is not there, and emptied; any other has to be made
abbrev pub opening : Bool → OpenOptions
opening true = with_truncate (with_create (with_write new_options true) true) true
opening false = with_create_new (with_write new_options true) true

-- what was asked for: a file of which name, whether it may be written over, and the fault that was met, if one was
pub record Asked : Type 0 where
  pub name : List ℕ
  pub over : Bool
  pub met : Option SaveFault

-- what was asked for grows by this, where it is known
abbrev pub Asks : Option (List Asked) → Option (List Asked) → Asked → Type 0
Asks None new asked = Unit {0}
Asks (Some before) None asked = ⊥
Asks (Some before) (Some after) asked = after ≡ before ++ asked ∷ []

-- the fault that was met, if one was
abbrev pub fault_in : {T : Type 0} → Result T SaveFault → Option SaveFault
fault_in (Ok value) = None
fault_in (Err fault) = Some fault

-- a file that was not opened: only one that is not to be written over can be in the way
abbrev pub IsUnopened : Bool → SaveFault → Type 0
IsUnopened over Exists = over ≡ false
IsUnopened over CannotOpen = Unit {0}
IsUnopened over WriteFailed = ⊥

-- the opening of a file is asked for once, by its name; one whose name is no UTF-8 does not open, and is not asked for
abbrev pub IsOpened : Option (List Asked) → Option (List Asked) → List ℕ → Bool → Option SaveFault → Type 0
IsOpened old new name over met =
    Asks old new (record { name = name; over = over; met = met }) ⊎ ((IsUtf8 name → ⊥) × (new ≡ old) × (met ≡ Some CannotOpen))
