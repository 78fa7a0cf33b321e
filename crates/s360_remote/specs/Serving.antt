-- What a request makes of the target, and what it is answered (gdb manual, "Packets", "Stop Reply Packets", "General Query
-- Packets").
use Rattle.std.specs.Prelude.{◌≡◌, ◌≢◌, ◌⊎◌, ⊤, ℕ, zero, suc, ◌+◌, ◌^◌, Bool, true, false, nat_eq, nat_lt, not}
use Rattle.std.specs.Prelude.{if◌then◌else◌, Option, Some, None, List, [], length, take, Result, Ok, Err}
use Rattle.byteorder.specs.Endian.{IsRead, big_number}
use Rattle.s360_condition.specs.declared.instruction.Placed.{Placed}
use Rattle.s360_machine.specs.Machine.{Machine, storage_size}
use Rattle.s360_journal.specs.Breakpoints.{has_room_for}
use Rattle.s360_journal.specs.Standing.{last_kind_of, machine_of}
use Rattle.s360_language.specs.declared.command.LineFault.{LineFault}
use Rattle.s360_packet.specs.Answers.{answer_text, registers_text}
use Rattle.s360_packet.specs.Framing.{framed}
use Rattle.s360_packet.specs.Requests.{Parsed}
use Rattle.s360_packet.specs.declared.answer.Answer.{Answer}
use Rattle.s360_packet.specs.declared.answer.Answer.TheVariants as answer
use Rattle.s360_packet.specs.declared.answer.Stop.{Stop}
use Rattle.s360_packet.specs.declared.answer.Stop.TheVariants.{Trap}
use Rattle.s360_packet.specs.declared.request.Point.{Point}
use Rattle.s360_packet.specs.declared.request.Point.TheVariants.{Watch as watch}
use Rattle.s360_packet.specs.declared.request.Watchpoint.{Watchpoint}
use Rattle.s360_packet.specs.declared.request.Thread.{Thread}
use Rattle.s360_packet.specs.declared.request.Thread.TheVariants.{Numbered}
use Rattle.s360_packet.specs.declared.request.Request.{Request}
use Rattle.s360_packet.specs.declared.request.Request.TheVariants.{Stopped, Registers, WriteRegisters, Register, WriteRegister, Storage, WriteStorage, Step}
use Rattle.s360_packet.specs.declared.request.Request.TheVariants.{Continue, StepBack, ContinueBack, Insert, InsertIf, Remove, Command, HasMoved, Supported}
use Rattle.s360_packet.specs.declared.request.Request.TheVariants.{Description, MemoryMap, Extend, Restart, Run, Select, IsAlive, CurrentThread, Attached}
use Rattle.s360_packet.specs.declared.request.Request.TheVariants.{FirstThreads, NextThreads, StopAcknowledging, Detach, Kill, KillProcess}
use Rattle.s360_journal.specs.Recorded.{session_of, standing_events, with_standing}
use Rattle.s360_remote.specs.Conditions.{conditions_in}
use Rattle.s360_remote.specs.Driven.{Driven, back_partly, come_to, gone_partly, moved_to}
use Rattle.s360_remote.specs.ErrorNumbers.{error_of}
use Rattle.s360_remote.specs.Moving.{Moved, gone_back, resumed}
use Rattle.s360_inquiry.specs.Reading.{inquiry_of}
use Rattle.s360_remote.specs.Monitor.{IsMonitorAnswered, IsMonitorBegun}
use Rattle.s360_saving.specs.Reading.{Asked, saving_of}
use Rattle.s360_remote.specs.Points.{Points, Watched, has_room_for_watch, with_break, with_watch, without_break, without_watch}
use Rattle.s360_remote.specs.Registers.{words_of_machine}
use Rattle.s360_remote.specs.Replies.{console_packet, idle_words, line_text, packet_of, pause_packets, register_of_number, stop_packet, storage_text}
use Rattle.s360_remote.specs.Saving.{IsSavingBegun, IsSavingServed}
use Rattle.s360_remote.specs.Untold.{after_stop, stop_before}
use Rattle.s360_remote.specs.Writing.{IsWriteEnd, Write, register_write, registers_write, storage_write}
use Rattle.s360_remote.specs.declared.error_number.ErrorNumber.{ErrorNumber}
use Rattle.s360_remote.specs.declared.error_number.ErrorNumber.TheVariants.{NoThread, Address, Full, Malformed, Memory}
use Rattle.s360_journal.specs.declared.running.Pause.{Pause}
use Rattle.s360_journal.specs.declared.running.Reach.{Reach}
use Rattle.s360_journal.specs.declared.running.Reach.TheVariants as reach
use Rattle.s360_remote.specs.declared.serving.Then.{Then}
use Rattle.s360_remote.specs.declared.serving.Then.TheVariants as then

abbrev pub machine_now : Driven → Machine
machine_now d = machine_of (session_of d.recorded)

-- ---- requests that go on or back

abbrev pub told_first : Driven → Option Stop
told_first d = stop_before d.untold d.points.watches

abbrev pub after_told : Driven → Driven
after_told d = record d { untold = after_stop d.untold d.points.watches }

-- what tells why it pauses, and why nothing is left to do
abbrev pub pause_told : Reach → Driven → Pause → List ℕ
pause_told reach d why = pause_packets reach (machine_now d) (last_kind_of (standing_events d.recorded)) d.untold.met why

abbrev pub idle_told : Driven → List ℕ
idle_told d = console_packet (idle_words (machine_now d) (last_kind_of (standing_events d.recorded)))

-- the machine paused: the target is as it was but for the machine, and gdb is told why
abbrev pub IsPaused : Reach → Moved → Driven → Driven → Then → List ℕ → Type 0
IsPaused reach moved d t next packets =
    (t ≡ moved_to d moved) × (next ≡ then.GoOn) × (packets ≡ pause_told reach (come_to d moved) moved.why)

-- gdb was told what it was still to be told, and the machine stays where it is; else it goes on or back
abbrev pub IsResumed : Option Stop → Reach → Moved → Driven → Driven → Then → List ℕ → Type 0
IsResumed (Some stop) reach moved d t next packets = (t ≡ after_told d) × (next ≡ then.GoOn) × (packets ≡ stop_packet stop)
IsResumed None reach moved d t next packets = IsPaused reach moved d t next packets

abbrev pub IsResumedOn : Reach → Driven → Driven → Then → List ℕ → Type 0
IsResumedOn reach d t next packets = IsResumed (told_first d) reach (resumed d.points reach d.recorded) d t next packets

abbrev pub IsResumedBack : Reach → Driven → Driven → Then → List ℕ → Type 0
IsResumedBack reach d t next packets = IsResumed (told_first d) reach (gone_back d.points reach d.recorded) d t next packets

-- after want of memory: likewise, or the machine moved so
abbrev pub IsResumedBegun : Option Stop → Driven → Driven → Type 0 → Type 0
IsResumedBegun (Some stop) d t moved = t ≡ after_told d
IsResumedBegun None d t moved = moved

-- the machine went on and its pause is lost, or some first ones of the events stand
abbrev pub HasGoneOn : Reach → Driven → Driven → Type 0
HasGoneOn reach d t =
    (t ≡ moved_to d (resumed d.points reach d.recorded))
    ⊎ ((n : ℕ) × (t ≡ gone_partly (after_told d) reach n))

-- likewise back
abbrev pub HasGoneBack : Reach → Driven → Driven → Type 0
HasGoneBack reach d t =
    (t ≡ moved_to d (gone_back d.points reach d.recorded))
    ⊎ ((n : ℕ) × (t ≡ back_partly (after_told d) n))

-- the machine is started anew: it goes back to the start of the record, and nothing else is told
abbrev pub started_anew : Driven → Driven
started_anew d = record d { recorded = with_standing d.recorded 0; untold = record d.untold { met = []; stop = false } }

-- ---- requests that write

-- recorded changes were dropped, which the answer cannot tell
abbrev pub after_write : ℕ → Then
after_write zero = then.GoOn
after_write (suc n) = then.Dropped (suc n)

-- how a write ended is told
abbrev pub IsTold : Result ⊤ ErrorNumber → ℕ → Then → List ℕ → Type 0
IsTold (Ok done) dropped next packets = (next ≡ after_write dropped) × (packets ≡ packet_of answer.Done)
IsTold (Err fault) dropped next packets = (next ≡ then.GoOn) × (packets ≡ packet_of (error_of fault))

-- a write ended, and not for want of memory, which is told
abbrev pub IsWritten : Write → Driven → Driven → Then → List ℕ → Type 0
IsWritten w d t next packets = (end : Result ⊤ ErrorNumber) × IsWriteEnd w d t end × (end ≢ Err Memory) × IsTold end t.recorded.dropped next packets

-- a write ended, for want of memory or untold
abbrev pub IsWriteBegun : Write → Driven → Driven → Type 0
IsWriteBegun w d t = (end : Result ⊤ ErrorNumber) × IsWriteEnd w d t end

-- the words of the machine's registers, each with its high byte first
pub record AreWordsOf (bytes words : List ℕ) : Type 0 where
  pub count : length words ≡ 18
  pub read : IsRead big_number 4 (take 72 bytes) words

-- `G` has the machine's words, and what it lacks: 17 words and 16 doublewords
abbrev pub all_bytes : ℕ
all_bytes = 268

abbrev pub AreAllWritten : List ℕ → Driven → Driven → Then → List ℕ → Type 0
AreAllWritten bytes d t next packets =
    ((length bytes ≢ all_bytes) × IsWritten (Err Malformed) d t next packets)
    ⊎ ((length bytes ≡ all_bytes) × ((words : List ℕ) × AreWordsOf bytes words × IsWritten (registers_write d words) d t next packets))

abbrev pub AreAllBegun : List ℕ → Driven → Driven → Type 0
AreAllBegun bytes d t = (t ≡ d) ⊎ ((words : List ℕ) × AreWordsOf bytes words × IsWriteBegun (registers_write d words) d t)

-- ---- requests that set points

-- bytes can be watched if all of them are in storage
abbrev pub is_in_storage : Driven → ℕ → ℕ → Bool
is_in_storage d at count = if nat_lt (storage_size (machine_now d)) (at + count) then false else true

abbrev bytes_at : Watchpoint → ℕ → ℕ → Watched
bytes_at watchpoint at count = record { watchpoint = watchpoint; at = at; count = count }

abbrev watching : Points → List Watched → Points
watching p watches = record p { watches = watches }

abbrev pub with_points : Driven → Points → Driven
with_points d p = record d { points = p }

-- the target was served so, and this answer is sent
abbrev pub IsSet : Driven → Driven → Then → List ℕ → Answer → Type 0
IsSet d t next packets a = (t ≡ d) × (next ≡ then.GoOn) × (packets ≡ packet_of a)

abbrev pub set_if : Bool → Answer
set_if true = answer.Done
set_if false = error_of Full

abbrev pub insert_answer : Point → ℕ → ℕ → Driven → Answer
insert_answer (watch watchpoint) at count d =
    if is_in_storage d at count then set_if (has_room_for_watch d.points.watches (bytes_at watchpoint at count)) else error_of Address
insert_answer other at count d = set_if (has_room_for d.points.breaks at)

abbrev pub points_with : Point → ℕ → ℕ → Driven → Points
points_with (watch watchpoint) at count d =
    if is_in_storage d at count then watching d.points (with_watch d.points.watches (bytes_at watchpoint at count)) else d.points
points_with other at count d = with_break d.points at []

-- no bytes beyond 2^32 are watched
abbrev pub points_without : Point → ℕ → ℕ → Driven → Points
points_without (watch watchpoint) at count d =
    if nat_lt (at + count) (2 ^ 32) then watching d.points (without_watch d.points.watches (bytes_at watchpoint at count)) else d.points
points_without other at count d = without_break d.points at

-- a breakpoint with conditions, if they are right
abbrev pub IsInsertedIf : Parsed (List (List Placed)) → ℕ → Driven → Driven → Then → List ℕ → Type 0
IsInsertedIf (Ok conditions) at d t next packets =
    IsSet (with_points d (with_break d.points at conditions)) t next packets (set_if (has_room_for d.points.breaks at))
IsInsertedIf (Err f) at d t next packets = IsSet d t next packets (error_of Malformed)

-- after want of memory
abbrev pub IsInsertIfBegun : Parsed (List (List Placed)) → ℕ → Driven → Driven → Type 0
IsInsertIfBegun (Ok conditions) at d t = (t ≡ d) ⊎ (t ≡ record d { points = with_break d.points at conditions })
IsInsertIfBegun (Err f) at d t = t ≡ d

-- ---- requests that change nothing

-- there is one thread, whose number is 1
abbrev pub thread_answer : Thread → Answer
thread_answer (Numbered n) = if nat_eq n 1 then answer.Done else error_of NoThread
thread_answer other = answer.Done

abbrev pub told : Request → Machine → List ℕ
told Registers m = registers_text (words_of_machine m)
told (Register number) m = register_of_number m number
told (Storage at count) m = storage_text m at count
told Supported m = answer_text (answer.Supported 16384)
told (Description offset count) m = answer_text (answer.Description offset count)
told CurrentThread m = answer_text answer.Thread
told Attached m = answer_text answer.Attached
told FirstThreads m = answer_text answer.FirstThreads
told NextThreads m = answer_text answer.NoMoreThreads
told (MemoryMap offset count) m = answer_text (answer.MemoryMap (storage_size m) offset count)
told Stopped m = answer_text (answer.Stopped Trap)
told (Select thread) m = answer_text (thread_answer thread)
told (IsAlive thread) m = answer_text (thread_answer thread)
told other m = answer_text answer.Done

abbrev pub told_to : Request → Driven → List ℕ
told_to request d = told request (machine_now d)

-- ---- lines of gdb's user

-- once a line was carried out, gdb may ask whether it moved the machine
abbrev pub with_moved_from : ℕ → Driven → Driven
with_moved_from standing t = record t { untold = record t.untold { moved = not (nat_eq t.recorded.standing standing) } }

abbrev pub with_moved : Driven → Driven → Driven
with_moved d t = with_moved_from d.recorded.standing t

abbrev pub unmoved : Driven → Driven
unmoved d = record d { untold = record d.untold { moved = false } }

-- a line that saves nothing was carried out, and answered at once
abbrev pub IsAnsweredAtOnce : List ℕ → Driven → Driven → List ℕ → Type 0
IsAnsweredAtOnce line d t packets =
    (u : Driven) × (text : List ℕ) × IsMonitorAnswered (inquiry_of line) line d u text × (t ≡ with_moved d u) × (packets ≡ framed (line_text text))

abbrev pub IsBegunAtOnce : List ℕ → Driven → Driven → Type 0
IsBegunAtOnce line d t = (u : Driven) × IsMonitorBegun (inquiry_of line) line d u × (t ≡ with_moved d u)

-- a line that saves moves nothing; any other is carried out, and answered at once
abbrev pub IsCommandServed : Option (Result Asked LineFault) → List ℕ → Driven → Driven → Then → List ℕ → Type 0
IsCommandServed (Some asked) line d t next packets = (t ≡ unmoved d) × IsSavingServed asked d.recorded next packets
IsCommandServed None line d t next packets =
    (next ≡ then.GoOn) × IsAnsweredAtOnce line d t packets

-- the same after want of memory
abbrev pub IsCommandBegun : Option (Result Asked LineFault) → List ℕ → Driven → Driven → Type 0
IsCommandBegun (Some asked) line d t = (u : Driven) × IsSavingBegun d u × (t ≡ with_moved d u)
IsCommandBegun None line d t = IsBegunAtOnce line d t

-- gdb is told whether the last line moved the machine. Where it did gdb looks at all anew, and is then told that the machine
-- stands where it does.
abbrev pub after_asking : Driven → Driven
after_asking d = if d.untold.moved then record d { untold = record d.untold { met = []; stop = true } } else d

-- ---- all requests

-- how serving goes on after a request that changes nothing
abbrev pub then_after : Request → Then
then_after Detach = then.End
then_after (KillProcess n) = then.End
then_after StopAcknowledging = then.StopAcknowledging
then_after Extend = then.Extend
then_after other = then.GoOn

abbrev pub IsServed : Request → Driven → Driven → Then → List ℕ → Type 0
IsServed Step d t next packets = IsResumedOn reach.Step d t next packets
IsServed Continue d t next packets = IsResumedOn reach.Stop d t next packets
IsServed StepBack d t next packets = IsResumedBack reach.Step d t next packets
IsServed ContinueBack d t next packets = IsResumedBack reach.Stop d t next packets
IsServed (WriteStorage at bytes) d t next packets = IsWritten (storage_write d at bytes) d t next packets
IsServed (WriteRegister number word) d t next packets = IsWritten (register_write d number word) d t next packets
IsServed (WriteRegisters bytes) d t next packets = AreAllWritten bytes d t next packets
IsServed (Insert point at kind) d t next packets = IsSet (with_points d (points_with point at kind d)) t next packets (insert_answer point at kind d)
IsServed (InsertIf point at kind conditions) d t next packets = IsInsertedIf (conditions_in conditions) at d t next packets
IsServed (Remove point at kind) d t next packets = IsSet (with_points d (points_without point at kind d)) t next packets answer.Done
IsServed (Command line) d t next packets = IsCommandServed (saving_of line) line d t next packets
IsServed HasMoved d t next packets = (t ≡ after_asking d) × (next ≡ then.GoOn) × (packets ≡ packet_of (answer.Moved d.untold.moved))
IsServed Run d t next packets = (t ≡ started_anew d) × (next ≡ then.GoOn) × (packets ≡ stop_packet Trap)
IsServed Restart d t next packets = (t ≡ started_anew d) × (next ≡ then.GoOn) × (packets ≡ [])
IsServed Kill d t next packets = (t ≡ d) × (next ≡ then.End) × (packets ≡ [])
IsServed other d t next packets = (t ≡ d) × (next ≡ then_after other) × (packets ≡ framed (told other (machine_now d)))

-- after want of memory: some first ones of its events stand, or all that it makes is there and its answer is lost
abbrev pub IsRequestBegun : Request → Driven → Driven → Type 0
IsRequestBegun Step d t = IsResumedBegun (told_first d) d t (HasGoneOn reach.Step d t)
IsRequestBegun Continue d t = IsResumedBegun (told_first d) d t (HasGoneOn reach.Stop d t)
IsRequestBegun StepBack d t = IsResumedBegun (told_first d) d t (HasGoneBack reach.Step d t)
IsRequestBegun ContinueBack d t = IsResumedBegun (told_first d) d t (HasGoneBack reach.Stop d t)
IsRequestBegun (WriteStorage at bytes) d t = IsWriteBegun (storage_write d at bytes) d t
IsRequestBegun (WriteRegister number word) d t = IsWriteBegun (register_write d number word) d t
IsRequestBegun (WriteRegisters bytes) d t = AreAllBegun bytes d t
IsRequestBegun (Insert point at kind) d t = t ≡ record d { points = points_with point at kind d }
IsRequestBegun (InsertIf point at kind conditions) d t = IsInsertIfBegun (conditions_in conditions) at d t
IsRequestBegun (Remove point at kind) d t = t ≡ record d { points = points_without point at kind d }
IsRequestBegun (Command line) d t = IsCommandBegun (saving_of line) line d t
IsRequestBegun Run d t = t ≡ started_anew d
IsRequestBegun other d t = t ≡ d
