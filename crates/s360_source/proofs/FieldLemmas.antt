-- Two operands in storage: what their accesses look at, and what they meet.
use Rattle.std.proofs.Common.{ℕ, ◌≡◌, ◌∙◌, ◌++◌, cond, Option, List, [], ◌∷◌, ap, sym}
use Rattle.s360_model.specs.Psw.{protection_key_of}
use Rattle.s360_store.specs.declared.place.Place.{Place}
use Rattle.s360_store.specs.declared.place.Place.TheVariants.{Psw}
use Rattle.s360_store.specs.declared.protection.{Access.Access, Checked.Checked}
use Rattle.s360_store.specs.Protection.{access, met_of_both}
use Rattle.s360_store.specs.Spans.{byte_places}
use Rattle.s360_fixed.specs.declared.program_code.ProgramCode.{ProgramCode}
use Rattle.s360_fixed.specs.{Operands.conditions_of, ProgramCodes.program_code}
use Rattle.s360_logic.specs.declared.field.Field.{Field}
use Rattle.s360_machine.specs.Machine.{Machine}
use Rattle.s360_footprint.specs.LeftToRightRows.{both_met, comparison_read, field_read, fields_read}
use Rattle.s360_footprint.specs.OperandReadings.{bytes_read, profile_of}
use Rattle.s360_footprint.specs.Readings.{Reading, places_read, run}
use Rattle.s360_footprint.proofs.LeftToRightLemmas.{both-met-is}
use Rattle.s360_footprint.proofs.OperandLemmas.{access-is}
use Rattle.s360_footprint.proofs.ReadingLemmas.{places-bind}
use Rattle.s360_source.specs.Parts.{key_places}
use Rattle.s360_source.specs.Walks.{looks_at_keys}
use Rattle.s360_source.proofs.ReadingPlaces.{access-places, bytes-places, mapped}

-- one operand
abbrev pub keys_of : Machine → Field → Access → List Place
keys_of m field kind = cond (looks_at_keys m.core field.address field.count kind) (key_places field.address field.count) []

pub both-places : (first second : Reading Checked) (m : Machine) → places_read (both_met first second) m ≡ places_read first m ++ places_read second m
both-places first second m = places-bind first _ m ∙ ap (λ ps. places_read first m ++ ps) (mapped second _ m)

pub fields-places : (kind : Access) (first second : Field) (m : Machine)
    → Psw ∷ (keys_of m first kind ++ keys_of m second Access.Fetch) ≡ places_read (fields_read (profile_of m.core) kind first second) m
fields-places kind first second m =
    let key : ℕ = protection_key_of m.core.psw
    in sym (ap (λ ps. Psw ∷ ps)
    (both-places (field_read (profile_of m.core) kind first key) (field_read (profile_of m.core) Access.Fetch second key) m
    ∙ ap (λ ps. ps ++ places_read (field_read (profile_of m.core) Access.Fetch second key) m) (access-places first.address first.count kind key m)
    ∙ ap (λ ps. keys_of m first kind ++ ps) (access-places second.address second.count Access.Fetch key m)))

pub fields-code : (kind : Access) (first second : Field) (m : Machine) (o : Option ProgramCode) (both one other : Checked)
    → o ≡ program_code (conditions_of both) → both ≡ met_of_both one other
    → one ≡ access m.core.storage first.address first.count kind (protection_key_of m.core.psw)
    → other ≡ access m.core.storage second.address second.count Access.Fetch (protection_key_of m.core.psw)
    → o ≡ program_code (run (fields_read (profile_of m.core) kind first second) m)
fields-code kind first second m o both one other e h f g =
    let key : ℕ = protection_key_of m.core.psw
    in e ∙ ap (λ c. program_code (conditions_of c)) h
    ∙ sym (ap program_code (both-met-is (field_read (profile_of m.core) kind first key) (field_read (profile_of m.core) Access.Fetch second key) one other m
    (access-is first.address first.count kind key m ∙ sym f) (access-is second.address second.count Access.Fetch key m ∙ sym g)))

-- bytes that are compared
pub comparison-places : (first second count : ℕ) (m : Machine)
    → places_read (comparison_read first second count) m ≡ byte_places first count ++ byte_places second count
comparison-places first second count m =
    places-bind (bytes_read first count) _ m
    ∙ ap (λ ps. places_read (bytes_read first count) m ++ ps) (mapped (bytes_read second count) _ m ∙ bytes-places second count m)
    ∙ ap (λ ps. ps ++ byte_places second count) (bytes-places first count m)
