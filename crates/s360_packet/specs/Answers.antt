-- The answers (gdb manual, "Remote Serial Protocol", "Packets", "Stop Reply Packets", "General Query Packets").
use Rattle.std.specs.Prelude.{ℕ, if◌then◌else◌, List, [], ◌++◌, codes, replicate, flat_map}
use Rattle.s360_packet.specs.Framing.{two_digits}
use Rattle.s360_packet.specs.Hexadecimal.{bytes_text, word_text, number_text}
use Rattle.s360_packet.specs.Target.{description, memory_map, part_of, register_text}
use Rattle.s360_packet.specs.declared.answer.Stop.{Stop}
use Rattle.s360_packet.specs.declared.answer.Stop.TheVariants.{Trap, Quiet, Interrupt, Watch, Breakpoint, HistoryBegin, HistoryEnd}
use Rattle.s360_packet.specs.declared.request.Watchpoint.{Watchpoint}
use Rattle.s360_packet.specs.declared.request.Watchpoint.TheVariants.{Write, Read, Access}
use Rattle.s360_packet.specs.declared.answer.Answer.{Answer}
use Rattle.s360_packet.specs.declared.answer.Answer.TheVariants.{Empty, Done, Error, Bytes, Registers, Register, Stopped, Console}
use Rattle.s360_packet.specs.declared.answer.Answer.TheVariants.{Description, MemoryMap, Moved, Supported, Thread, Attached, FirstThreads, NoMoreThreads}

-- the machine's registers, and `x` for each digit of those that it lacks: 17 words and 16 doublewords
abbrev pub registers_text : List ℕ → List ℕ
registers_text words = flat_map word_text words ++ replicate 392 0x78

-- what the address of a watched byte stands behind
abbrev pub watch_name : Watchpoint → List ℕ
watch_name Write = codes "watch:"
watch_name Read = codes "rwatch:"
watch_name Access = codes "awatch:"

abbrev pub stop_text : Stop → List ℕ
stop_text Trap = codes "T05"
stop_text Quiet = codes "T00"
stop_text Interrupt = codes "T02"
stop_text (Watch watchpoint at) = codes "T05" ++ (watch_name watchpoint ++ (number_text at ++ codes ";"))
stop_text Breakpoint = codes "T05swbreak:;"
stop_text HistoryBegin = codes "T05replaylog:begin;"
stop_text HistoryEnd = codes "T05replaylog:end;"

-- what the target can do beyond what each can
abbrev pub features : List ℕ
features = codes ";qXfer:features:read+;ReverseStep+;ReverseContinue+;swbreak+;QStartNoAckMode+;qXfer:memory-map:read+;ConditionalBreakpoints+"

abbrev pub supported_text : ℕ → List ℕ
supported_text size = codes "PacketSize=" ++ (number_text size ++ features)

abbrev pub answer_text : Answer → List ℕ
answer_text Empty = []
answer_text Done = codes "OK"
answer_text (Error number) = codes "E" ++ two_digits number
answer_text (Bytes bytes) = bytes_text bytes.now
answer_text (Registers words) = registers_text words.now
answer_text (Register value) = register_text value
answer_text (Stopped stop) = stop_text stop
answer_text (Console text) = codes "O" ++ bytes_text text.now
answer_text (Description offset count) = part_of description offset count
answer_text (MemoryMap size offset count) = part_of (memory_map size) offset count
answer_text (Moved moved) = if moved then codes "1" else codes "0"
answer_text (Supported size) = supported_text size
answer_text Thread = codes "QC1"
answer_text Attached = codes "1"
answer_text FirstThreads = codes "m1"
answer_text NoMoreThreads = codes "l"
