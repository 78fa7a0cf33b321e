-- The packets that are sent to gdb (gdb manual, "Packets", "Stop Reply Packets").
use Rattle.std.specs.Prelude.{◌≡◌, ℕ, ◌+◌, Bool, true, false, nat_eq, nat_lt, if◌then◌else◌}
use Rattle.std.specs.Prelude.{List, [], ◌∷◌, ◌++◌, codes, length, slice_range, Option, Some, None}
use Rattle.s360_machine.specs.declared.event_kind.EventKind.{EventKind}
use Rattle.s360_machine.specs.declared.event_kind.EventKind.TheVariants.{Channel}
use Rattle.s360_machine.specs.Machine.{Machine}
use Rattle.s360_machine.specs.RunStates.{is_operating}
use Rattle.s360_model.specs.Psw.{wait_of}
use Rattle.s360_language.specs.Names.{refused_text}
use Rattle.s360_packet.specs.Answers.{answer_text, stop_text}
use Rattle.s360_packet.specs.Framing.{framed}
use Rattle.s360_packet.specs.Hexadecimal.{bytes_text}
use Rattle.s360_packet.specs.Target.{register_text, register_value}
use Rattle.s360_packet.specs.declared.answer.Answer.{Answer}
use Rattle.s360_packet.specs.declared.answer.Answer.TheVariants as answer
use Rattle.s360_packet.specs.declared.answer.Stop.{Stop}
use Rattle.s360_packet.specs.declared.answer.Stop.TheVariants.{Trap, Quiet, Breakpoint, HistoryBegin, HistoryEnd}
use Rattle.s360_packet.specs.declared.target.RegisterValue.{RegisterValue}
use Rattle.s360_remote.specs.ErrorNumbers.{error_of}
use Rattle.s360_remote.specs.declared.points.Met.{Met}
use Rattle.s360_remote.specs.Registers.{words_of_machine}
use Rattle.s360_remote.specs.Untold.{watch_of}
use Rattle.s360_remote.specs.declared.error_number.ErrorNumber.TheVariants.{Address, Malformed}
use Rattle.s360_journal.specs.declared.running.Pause.{Pause}
use Rattle.s360_journal.specs.declared.running.Pause.TheVariants.{Refused, Watch, Idle, Break, Stepped, RecordEnd, RecordStart, Done}
use Rattle.s360_journal.specs.declared.running.Reach.{Reach}
use Rattle.s360_journal.specs.declared.running.Reach.TheVariants.{Step}
use Rattle.s360_journal.specs.declared.running.Reach.TheVariants as reach

-- packets of this kind are sent after those before
abbrev pub Adds : (List ℕ → Type 0) → List ℕ → List ℕ → Type 0
Adds P old new = (packets : List ℕ) × P packets × (new ≡ old ++ packets)

abbrev pub packet_of : Answer → List ℕ
packet_of a = framed (answer_text a)

-- what answers a line: its text, or that it is done if it has none
abbrev pub line_text : List ℕ → List ℕ
line_text [] = answer_text answer.Done
line_text (b ∷ bs) = bytes_text (b ∷ bs)

-- bytes of storage: an error where there are none, or one is outside
abbrev pub storage_text : Machine → ℕ → ℕ → List ℕ
storage_text m at count =
    if nat_eq count 0 then answer_text (error_of Malformed)
    else (if nat_lt (length m.core.storage.bytes) (at + count) then answer_text (error_of Address)
    else bytes_text (slice_range m.core.storage.bytes at (at + count)))

-- one register: an error where there is none of this number
abbrev pub register_or_error : Option RegisterValue → List ℕ
register_or_error (Some value) = register_text value
register_or_error None = answer_text (error_of Malformed)

abbrev pub register_of_number : Machine → ℕ → List ℕ
register_of_number m number = register_or_error (register_value (words_of_machine m) number)

-- a text for gdb's user, which comes before the stop
abbrev pub console_packet : List ℕ → List ℕ
console_packet text = framed (codes "O" ++ bytes_text text)

abbrev pub stop_packet : Stop → List ℕ
stop_packet stop = framed (stop_text stop)

-- why nothing is left to do
abbrev pub idle_words_of : Bool → Option EventKind → Bool → List ℕ
idle_words_of false last waits = codes "idle: the CPU is stopped\n"
idle_words_of true (Some (Channel unit)) waits = codes "idle: the console waits for a line\n"
idle_words_of true other true = codes "idle: the CPU waits\n"
idle_words_of true other false = codes "idle: the instruction altered nothing\n"

abbrev pub idle_words : Machine → Option EventKind → List ℕ
idle_words m last = idle_words_of (is_operating m.control.run_state) last (wait_of m.core.psw)

-- the end of the record that the machine came to: a step is told by a text, since gdb stops at what it knows as the end of
-- history only where it went on to a stop
abbrev pub end_packets : Reach → List ℕ → Stop → List ℕ
end_packets Step words end = console_packet words ++ stop_packet Quiet
end_packets reach.Stop words end = stop_packet end

-- the first of the bytes that were met
abbrev pub watch_stop : List Met → Stop
watch_stop [] = Trap
watch_stop (b ∷ others) = watch_of b

-- what tells why the machine pauses: where nothing is left to do, or an event is refused, a text and the stop that stands for
-- it; m is the machine then, and the last event is that which stands last. A breakpoint where gdb has none lets it in, and it
-- goes on by itself.
abbrev pub pause_packets : Reach → Machine → Option EventKind → List Met → Pause → List ℕ
pause_packets reach m last met (Refused refusal) = console_packet (refused_text refusal) ++ stop_packet Quiet
pause_packets reach m last met Idle = console_packet (idle_words m last) ++ stop_packet Quiet
pause_packets reach m last met Watch = stop_packet (watch_stop met)
pause_packets reach m last met Break = stop_packet Breakpoint
pause_packets reach m last met Stepped = stop_packet Trap
pause_packets reach m last met RecordEnd = end_packets reach (codes "end of what was recorded\n") HistoryEnd
pause_packets reach m last met RecordStart = end_packets reach (codes "start of what was recorded\n") HistoryBegin
pause_packets reach m last met Done = stop_packet Breakpoint
