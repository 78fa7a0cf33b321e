-- What passes between a device and a channel, by how a command begins.
use Rattle.std.specs.Prelude.{◌≡◌, ◌≤◌, ℕ, Bool, List, [], length, MatchBool}
use Rattle.s360_device.specs.declared.device.Begin.{Begin}
use Rattle.s360_device.specs.declared.device.Begin.TheVariants.{Input, Output, NotYet}
use Rattle.s360_device.specs.Rows.{Row, output}

-- the bytes of a command's input are as many as its beginning says, and none where it is no input
abbrev pub IsInputOf : Begin → List ℕ → Type 0
IsInputOf (Input count) bytes = length bytes ≡ count
IsInputOf begin bytes = bytes ≡ []

-- a command that begins so may end with these bytes of output
abbrev pub CanEndWith : Begin → List ℕ → Type 0
CanEndWith (Output limit) bytes = length bytes ≤ limit
CanEndWith NotYet bytes = ⊥
CanEndWith begin bytes = bytes ≡ []

-- a command that begins so is an output
abbrev pub IsOutput : Begin → Type 0
IsOutput (Output limit) = Unit {0}
IsOutput begin = ⊥

-- a command that begins so moves bytes
abbrev pub MovesBytes : Begin → Type 0
MovesBytes (Input count) = Unit {0}
MovesBytes (Output limit) = Unit {0}
MovesBytes begin = ⊥

-- an output may end with these bytes
abbrev pub CanWrite : {M : Type 0} → Row M → List ℕ → Type 0
CanWrite (output limit media exception) bytes = length bytes ≤ limit
CanWrite row bytes = Unit {0}

-- it tells whether this does not hold
abbrev pub TellsNot : Bool → Type 0 → Type 0
TellsNot told Holds = MatchBool told (Holds → ⊥) Holds
