-- The calls that have not returned (own profile): branches and links, and supervisor calls, after which another instruction comes than the next
-- one. A call has returned once a later event led to that next one, from another address; with it the calls within it have ended. Of several
-- calls that have not returned and would go on there, the innermost has returned (GA22-6821, "Branching", branch and link; "Interruptions",
-- supervisor-call interruption).
use Rattle.std.specs.Prelude.{ℕ, zero, suc, ◌-◌, nat_eq, if◌then◌else◌, Option, Some, None, List, [], ◌∷◌, ◌++◌, codes, map, slice_index, unwrap_or}
use Rattle.std.specs.Option.{option_map, option_and_then}
use Rattle.s360_model.specs.Core.{Core}
use Rattle.s360_model.specs.Psw.{instruction_address_of}
use Rattle.s360_model.specs.Storage.{doubleword_at}
use Rattle.s360_model.specs.Text.{hex_text}
use Rattle.s360_store.specs.declared.place.Place.{Place}
use Rattle.s360_store.specs.declared.place.Place.TheVariants.{Register as register_place, Byte}
use Rattle.s360_fixed.specs.declared.ended.Ended.{Ended}
use Rattle.s360_fixed.specs.declared.ended.Ended.TheVariants.{Done, Svc}
use Rattle.s360_fixed.specs.declared.form.Form.{Form}
use Rattle.s360_fixed.specs.declared.form.Form.TheVariants.{Rr, Rx}
use Rattle.s360_fixed.specs.declared.operation.Operation.TheVariants.{BranchAndLink}
use Rattle.s360_machine.specs.declared.cpu.CpuCase.{CpuCase}
use Rattle.s360_machine.specs.declared.cpu.CpuCase.TheVariants.{Executing}
use Rattle.s360_machine.specs.declared.event_kind.EventKind.{EventKind}
use Rattle.s360_machine.specs.declared.event_kind.EventKind.TheVariants.{Cpu}
use Rattle.s360_machine.specs.Cpu.{cpu_case}
use Rattle.s360_machine.specs.Machine.{Machine}
use Rattle.s360_journal.specs.Standing.{machine_of}
use Rattle.s360_journal.specs.Recorded.{Recorded, session_of}
use Rattle.s360_language.specs.Names.{place_name}
use Rattle.s360_inquiry.specs.declared.call.Call.{Call}
use Rattle.s360_inquiry.specs.declared.call.Calling.{Calling}
use Rattle.s360_inquiry.specs.declared.calling.OpenCall.{OpenCall}
use Rattle.s360_inquiry.specs.declared.call.Link.{Link}
use Rattle.s360_inquiry.specs.declared.executed.Executed.{Executed}
use Rattle.s360_inquiry.specs.declared.call.Link.TheVariants.{Register, OldPsw}
use Rattle.s360_inquiry.specs.Tellings.{told_lines}
use Rattle.s360_inquiry.specs.Changes.{kind_of_change, machine_after, words_of_change}
use Rattle.s360_inquiry.specs.Executed.{executed}

-- ---- which events call

-- where the link of what is performed stands: a branch and link puts it into R1
abbrev pub link_of_form : Form → Option Link
link_of_form (Rr BranchAndLink r1 r2) = Some (Register r1)
link_of_form (Rx BranchAndLink r1 x2 b2 d2) = Some (Register r1)
link_of_form form = None

abbrev pub link_of_performed : Option Form → Option Link
link_of_performed None = None
link_of_performed (Some form) = link_of_form form

-- that of a supervisor call is the old PSW
abbrev pub link_of_ended : Ended → Option Form → Option Link
link_of_ended (Svc code) performed = Some OldPsw
link_of_ended Done performed = link_of_performed performed
link_of_ended other performed = None

-- an instruction with a link, and the address of the next instruction
abbrev pub calling_of_executed : Executed → Option Calling
calling_of_executed e = option_map (λ link. record { link = link; next = e.next_address }) (link_of_ended e.ended e.performed)

abbrev pub calling_of_case : CpuCase → Core → Option Calling
calling_of_case Executing m = calling_of_executed (executed m)
calling_of_case other m = None

unfoldable pub calling_of : Machine → EventKind → Option Calling
calling_of m Cpu = calling_of_case (cpu_case m) m.core
calling_of m other = None

abbrev pub calling_if : Machine → Option EventKind → Option Calling
calling_if m kind = option_and_then (calling_of m) kind

-- the value of a link: a word, or the doubleword of the old PSW
abbrev pub old_psw : ℕ
old_psw = 0x20

abbrev pub link_value : Machine → Link → ℕ
link_value m (Register n) = slice_index m.core.registers n
link_value m OldPsw = doubleword_at m.core.storage.bytes old_psw

-- it is a call if another instruction comes than the next one, in the machine after it
abbrev pub call_by : ℕ → Machine → Option Calling → Option Call
call_by number after None = None
call_by number after (Some c) =
    if nat_eq (instruction_address_of after.core.psw) c.next then None
    else Some (record { number = number; next = c.next; link = c.link; value = link_value after c.link })

abbrev pub call_of_change : Recorded → ℕ → Option Call
call_of_change r number = call_by number (machine_after r number) (calling_if (machine_after r (number - 1)) (kind_of_change r number))

-- ---- which have not returned, the innermost first

-- the calls outside of the innermost one that goes on at an address, if one does
abbrev pub outside_of : ℕ → List Call → Option (List Call)
outside_of at [] = None
outside_of at (c ∷ cs) = if nat_eq c.next at then Some cs else outside_of at cs

-- an event calls, or leads to an address, or does neither
abbrev pub calls_after : Option Call → Option ℕ → List Call → List Call
calls_after (Some call) led calls = call ∷ calls
calls_after None None calls = calls
calls_after None (Some at) calls = unwrap_or (outside_of at calls) calls

-- the instruction address after an event, if it was another before it
abbrev pub led_to : ℕ → ℕ → Option ℕ
led_to before after = if nat_eq before after then None else Some after

abbrev pub address_in : Recorded → ℕ → ℕ
address_in r number = instruction_address_of (machine_after r number).core.psw

abbrev pub calls_after_change : Recorded → ℕ → List Call → List Call
calls_after_change r number calls = calls_after (call_of_change r number) (led_to (address_in r (number - 1)) (address_in r number)) calls

-- those of the first changes
abbrev pub open_calls : Recorded → ℕ → List Call
open_calls r zero = []
open_calls r (suc n) = calls_after_change r (suc n) (open_calls r n)

-- ---- how they are told

abbrev pub link_place : Link → Place
link_place (Register n) = register_place n
link_place OldPsw = Byte old_psw

-- a value of a link, in eight digits or sixteen
abbrev pub value_words_of : Link → ℕ → List ℕ
value_words_of (Register n) value = codes " " ++ hex_text 8 value
value_words_of OldPsw value = codes " " ++ hex_text 16 value

-- what stands where the link was, if it is another value
abbrev pub overwritten_words : Link → ℕ → ℕ → List ℕ
overwritten_words link value now = if nat_eq value now then [] else codes " now" ++ value_words_of link now

-- where a call is to go on, and its link
abbrev pub returning_words : Call → ℕ → List ℕ
returning_words c now =
    (codes " returns to " ++ hex_text 6 c.next) ++ codes " by " ++ place_name (link_place c.link) ++ value_words_of c.link c.value
    ++ overwritten_words c.link c.value now

-- a call that has not returned, and what stands now where its link was
abbrev pub open_call : Recorded → Call → OpenCall
open_call r c = record { call = c; now = link_value (machine_of (session_of r)) c.link }

-- it is told behind the number and the event of its change
abbrev pub line_of_call : Recorded → OpenCall → List ℕ
line_of_call r c = words_of_change r c.call.number ++ returning_words c.call c.now ++ codes "\n"

abbrev pub told_open_calls : Recorded → List OpenCall → List ℕ
told_open_calls r [] = codes "calls none" ++ codes "\n"
told_open_calls r (c ∷ cs) = told_lines (map (line_of_call r) (c ∷ cs))

abbrev pub calls_text : Recorded → List ℕ
calls_text r = told_open_calls r (map (open_call r) (open_calls r r.standing))
