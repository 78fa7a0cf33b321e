-- Sense bytes: six for each device, of which a device with one sense byte has zeros after it (GA22-6821,
-- "Input/Output Operations", sense data; which bits are set where is the own profile).
use Rattle.std.specs.Prelude.{ℕ, List, [], ◌∷◌}

-- nothing to tell
abbrev pub no_sense : List ℕ
no_sense = 0 ∷ 0 ∷ 0 ∷ 0 ∷ 0 ∷ 0 ∷ []

-- bit 0, command reject: the device has no such command
abbrev pub command_reject : List ℕ
command_reject = 0x80 ∷ 0 ∷ 0 ∷ 0 ∷ 0 ∷ 0 ∷ []

-- bit 1, intervention required: the operator has to do something first
abbrev pub intervention_required : List ℕ
intervention_required = 0x40 ∷ 0 ∷ 0 ∷ 0 ∷ 0 ∷ 0 ∷ []
