-- The trace of a record as comma-separated values (own profile): a line that names the fields, and then what each of some changes
-- that stand did, in the order of their numbers.
use Rattle.std.specs.Prelude.{ℕ, ◌+◌, ◌-◌, List, ◌++◌, codes, min}
use Rattle.std.specs.List.{flat_map, range_with_len}
use Rattle.s360_model.specs.Text.{decimal}
use Rattle.s360_machine.specs.declared.event.Event.{Event}
use Rattle.s360_machine.specs.declared.event_kind.EventKind.{EventKind}
use Rattle.s360_machine.specs.EventKinds.{kind_of_event}
use Rattle.s360_machine.specs.Machine.{Machine}
use Rattle.s360_journal.specs.Recorded.{Recorded, with_standing}
use Rattle.s360_language.specs.Names.{event_name}
use Rattle.s360_inquiry.specs.Changes.{event_next, machine_after}
use Rattle.s360_trace.specs.Executions.{executed_fields}
use Rattle.s360_trace.specs.StoresTold.{lines_of, stores_met}

abbrev pub header : List ℕ
header = codes "number,event,address,instruction,mnemonic,place,before,after,sources\n"

-- the number of an event, its name, and what it executes in the machine that it meets
abbrev pub event_fields : ℕ → Machine → EventKind → List ℕ
event_fields number m kind = decimal number ++ codes "," ++ event_name kind ++ executed_fields m kind

-- the lines of an event of a number, told of the machine that it meets and the one after it
abbrev pub event_lines : ℕ → Machine → Event → Machine → List ℕ
event_lines number m e after = lines_of (event_fields number m (kind_of_event e)) after (stores_met m e)

-- those of the change of a number
abbrev pub change_lines : Recorded → ℕ → List ℕ
change_lines r number =
    event_lines number (machine_after r (number - 1)) (event_next (with_standing r (number - 1))) (machine_after r number)

-- those of so many changes behind the first ones
abbrev pub lines_behind : Recorded → ℕ → ℕ → List ℕ
lines_behind r first count = flat_map (λ before. change_lines r (before + 1)) (range_with_len first count)

-- how many changes stand before the one of a number
abbrev pub standing_before : Recorded → ℕ → ℕ
standing_before r number = min (number - 1) r.standing

-- the changes from one number to another, as far as they stand
abbrev pub trace : Recorded → ℕ → ℕ → List ℕ
trace r from to = header ++ lines_behind r (standing_before r from) (min to r.standing - standing_before r from)
