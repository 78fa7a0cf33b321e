-- How the machine stands (own profile): its units, and what it does next.
use Rattle.std.specs.Prelude.{ℕ, if◌then◌else◌, List, [], ◌++◌, codes, flat_map}
use Rattle.s360_model.specs.Text.{hex_text}
use Rattle.s360_store.specs.declared.place.Place.TheVariants.{UnitState as unit_state, UnitMedia}
use Rattle.s360_channel.specs.declared.configured_unit.ConfiguredUnit.{ConfiguredUnit}
use Rattle.s360_channel.specs.ConfiguredUnits.{address_of_unit, configured_units, control_of}
use Rattle.s360_channel.specs.Units.{is_pending}
use Rattle.s360_machine.specs.Machine.{Machine}
use Rattle.s360_journal.specs.Standing.{machine_of}
use Rattle.s360_journal.specs.Recorded.{Recorded, session_of}
use Rattle.s360_language.specs.Shown.{shown_text}
use Rattle.s360_language.specs.declared.command.Shown.TheVariants.{External, Psw, UnitState}
use Rattle.s360_language.specs.Values.{value_words}
use Rattle.s360_inquiry.specs.Going.{stands_line}
use Rattle.s360_inquiry.specs.Happenings.{cpu_words}
use Rattle.s360_inquiry.specs.Interruptions.{interruption_line, last_interruption_in}

-- a unit by its address: what the channel does for it, and its device
abbrev pub unit_and_device : Machine → ConfiguredUnit → List ℕ
unit_and_device m u =
    hex_text 3 (address_of_unit u) ++ value_words m (unit_state (record { 0 = address_of_unit u }))
    ++ value_words m (UnitMedia (record { 0 = address_of_unit u })) ++ codes "\n"

abbrev pub units_text : Machine → List ℕ
units_text m = flat_map (unit_and_device m) configured_units

-- a unit with a condition for an interruption, as `show u` has it
abbrev pub pending_text : Machine → ConfiguredUnit → List ℕ
pending_text m u = if is_pending (control_of m.units u) then shown_text m (UnitState (record { 0 = address_of_unit u })) else []

abbrev pub pending_lines : Machine → List ℕ
pending_lines m = flat_map (pending_text m) configured_units

-- the PSW and the run state, what the CPU does next, and what is pending
abbrev pub next_text : Machine → List ℕ
next_text m = shown_text m Psw ++ cpu_words m ++ codes "\n" ++ shown_text m External ++ pending_lines m

-- below how many changes stand, and the last interruption
abbrev pub where_text : Recorded → List ℕ
where_text r = (stands_line r ++ interruption_line r (last_interruption_in r)) ++ next_text (machine_of (session_of r))
