-- Requests as gdb writes them (gdb manual, "Remote Serial Protocol", "Packets" and "General Query Packets").
use Rattle.std.specs.Prelude.{◌≢◌, ℕ, ◌<◌, ◌^◌, List, ◌++◌, codes, length, ⊤}
use Rattle.hex.specs.Hex.{IsBytes}
use Rattle.s360_packet.specs.Hexadecimal.{bytes_text, word_text, number_text}
use Rattle.s360_packet.specs.declared.request.Breakpoint.{Breakpoint}
use Rattle.s360_packet.specs.declared.request.Breakpoint.TheVariants.{Software, Hardware}
use Rattle.s360_packet.specs.declared.request.Point.{Point}
use Rattle.s360_packet.specs.declared.request.Point.TheVariants.{Break, Watch}
use Rattle.s360_packet.specs.declared.request.Watchpoint.{Watchpoint}
use Rattle.s360_packet.specs.declared.request.Watchpoint.TheVariants.{Write, Read, Access}
use Rattle.s360_packet.specs.declared.request.Thread.{Thread}
use Rattle.s360_packet.specs.declared.request.Thread.TheVariants.{Every, Any, Numbered}
use Rattle.s360_packet.specs.declared.request.Request.{Request}
use Rattle.s360_packet.specs.declared.request.Request.TheVariants.{Stopped, Registers, WriteRegisters, Register, WriteRegister, Storage, WriteStorage}
use Rattle.s360_packet.specs.declared.request.Request.TheVariants.{Step, Continue, StepBack, ContinueBack, Insert, InsertIf, Remove, Command, HasMoved}
use Rattle.s360_packet.specs.declared.request.Request.TheVariants.{Supported, Description, MemoryMap, Extend, Restart, Run, Select, IsAlive, CurrentThread}
use Rattle.s360_packet.specs.declared.request.Request.TheVariants.{Attached, FirstThreads, NextThreads, StopAcknowledging, Detach, Kill, KillProcess}

-- two numbers, parted by `,`
abbrev pub two_texts : ℕ → ℕ → List ℕ
two_texts first second = number_text first ++ (codes "," ++ number_text second)

-- what stands behind `Z` or `z`
abbrev pub breakpoint_text : Breakpoint → List ℕ
breakpoint_text Software = codes "0,"
breakpoint_text Hardware = codes "1,"

abbrev pub watchpoint_text : Watchpoint → List ℕ
watchpoint_text Write = codes "2,"
watchpoint_text Read = codes "3,"
watchpoint_text Access = codes "4,"

abbrev pub point_text : Point → List ℕ
point_text (Break point) = breakpoint_text point
point_text (Watch point) = watchpoint_text point

abbrev pub thread_text : Thread → List ℕ
thread_text Every = codes "-1"
thread_text Any = codes "0"
thread_text (Numbered n) = number_text n

-- what stands behind `M`
abbrev pub write_text : ℕ → List ℕ → List ℕ
write_text at bytes = two_texts at (length bytes) ++ (codes ":" ++ bytes_text bytes)

-- storage from an address on is given bytes, which the packet has as they are
abbrev pub binary_write_text : ℕ → List ℕ → List ℕ
binary_write_text at bytes = codes "X" ++ (two_texts at (length bytes) ++ (codes ":" ++ bytes))

abbrev pub request_text : Request → List ℕ
request_text Stopped = codes "?"
request_text Registers = codes "g"
request_text (WriteRegisters bytes) = codes "G" ++ bytes_text bytes
request_text (Register number) = codes "p" ++ number_text number
request_text (WriteRegister number word) = codes "P" ++ (number_text number ++ (codes "=" ++ word_text word))
request_text (Storage at count) = codes "m" ++ two_texts at count
request_text (WriteStorage at bytes) = codes "M" ++ write_text at bytes
request_text Step = codes "s"
request_text Continue = codes "c"
request_text StepBack = codes "bs"
request_text ContinueBack = codes "bc"
request_text (Insert point at kind) = codes "Z" ++ (point_text point ++ two_texts at kind)
request_text (InsertIf point at kind conditions) = codes "Z" ++ (breakpoint_text point ++ (two_texts at kind ++ (codes ";" ++ conditions)))
request_text (Remove point at kind) = codes "z" ++ (point_text point ++ two_texts at kind)
request_text Supported = codes "qSupported"
request_text (Description offset count) = codes "qXfer:features:read:target.xml:" ++ two_texts offset count
request_text (MemoryMap offset count) = codes "qXfer:memory-map:read::" ++ two_texts offset count
request_text HasMoved = codes "qs360.moved"
request_text (Select thread) = codes "Hg" ++ thread_text thread
request_text (IsAlive thread) = codes "T" ++ thread_text thread
request_text CurrentThread = codes "qC"
request_text Attached = codes "qAttached"
request_text FirstThreads = codes "qfThreadInfo"
request_text NextThreads = codes "qsThreadInfo"
request_text StopAcknowledging = codes "QStartNoAckMode"
request_text (Command bytes) = codes "qRcmd," ++ bytes_text bytes
request_text Extend = codes "!"
request_text Restart = codes "R00"
request_text Run = codes "vRun;"
request_text Detach = codes "D"
request_text Kill = codes "k"
request_text (KillProcess number) = codes "vKill;" ++ number_text number

-- numbers of 32 bits
abbrev pub IsWord : ℕ → Type 0
IsWord n = n < 2 ^ 32

-- bytes, not more than such a number counts
abbrev pub IsData : List ℕ → Type 0
IsData bytes = IsBytes bytes × IsWord (length bytes)

abbrev pub IsThread : Thread → Type 0
IsThread (Numbered n) = IsWord n × (n ≢ 0)
IsThread t = ⊤

-- the fields of a request are what its type has
abbrev pub IsRequest : Request → Type 0
IsRequest (WriteRegisters bytes) = IsData bytes
IsRequest (Register number) = IsWord number
IsRequest (WriteRegister number word) = IsWord number × IsWord word
IsRequest (Storage at count) = IsWord at × IsWord count
IsRequest (WriteStorage at bytes) = IsWord at × IsData bytes
IsRequest (Insert point at kind) = IsWord at × IsWord kind
IsRequest (InsertIf point at kind conditions) = IsWord at × IsWord kind
IsRequest (Remove point at kind) = IsWord at × IsWord kind
IsRequest (Description offset count) = IsWord offset × IsWord count
IsRequest (MemoryMap offset count) = IsWord offset × IsWord count
IsRequest (Select thread) = IsThread thread
IsRequest (IsAlive thread) = IsThread thread
IsRequest (Command bytes) = IsData bytes
IsRequest (KillProcess number) = IsWord number
IsRequest r = ⊤
