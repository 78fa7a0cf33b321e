-- How a program ends for a failure (own profile): what it tells of it in a line, and the status.
use Rattle.std.specs.Prelude.{ℕ, List, [], ◌++◌, codes, decimal}
use Rattle.s360_setup.specs.declared.failure.Stream.{Stream}
use Rattle.s360_setup.specs.declared.failure.Stream.TheVariants.{Reader, Tape0, Tape1, Script, Connection}
use Rattle.s360_setup.specs.declared.failure.Fault.{Fault}
use Rattle.s360_setup.specs.declared.failure.Fault.TheVariants.{CannotRead, FileTooLong, ShortCard, ShortHeader, BadFlags, PartOutOfPlace}
use Rattle.s360_setup.specs.declared.failure.Fault.TheVariants.{ShortBlock, BlockTooLong, ReadFailed, ScriptTooLong, WriteFailed}
use Rattle.s360_setup.specs.declared.failure.Failure.{Failure}
use Rattle.s360_setup.specs.declared.failure.Failure.TheVariants as failure

abbrev pub stream_name : Stream → List ℕ
stream_name Reader = codes "reader"
stream_name Tape0 = codes "tape0"
stream_name Tape1 = codes "tape1"
stream_name Script = codes "script"
stream_name Connection = codes "gdb"

abbrev pub fault_name : Fault → List ℕ
fault_name CannotRead = codes "cannot read"
fault_name FileTooLong = codes "file too long"
fault_name (ShortCard at) = codes "short card at "
fault_name (ShortHeader at) = codes "short header at "
fault_name (BadFlags at) = codes "bad flags at "
fault_name (PartOutOfPlace at) = codes "part out of place at "
fault_name (ShortBlock at) = codes "short block at "
fault_name (BlockTooLong at) = codes "block too long at "
fault_name ReadFailed = codes "read failed"
fault_name ScriptTooLong = codes "script too long"
fault_name WriteFailed = codes "write failed"

-- the offset of the fault, in bytes from the start of the file, in decimal
abbrev pub offset_digits : Fault → List ℕ
offset_digits (ShortCard at) = decimal at
offset_digits (ShortHeader at) = decimal at
offset_digits (BadFlags at) = decimal at
offset_digits (PartOutOfPlace at) = decimal at
offset_digits (ShortBlock at) = decimal at
offset_digits (BlockTooLong at) = decimal at
offset_digits fault = []

-- what is told of it
abbrev pub failure_text : Failure → List ℕ
failure_text failure.Word = codes "a word of the command line is not UTF-8"
failure_text (failure.Stream stream fault) = stream_name stream ++ (codes ": " ++ (fault_name fault ++ offset_digits fault))
failure_text failure.StorageSize = codes "storage size must be a multiple of 2048 bytes from 8192 to 1048576"
failure_text failure.Memory = codes "memory: out of memory"

-- the status: 2 for the command line and the storage size
abbrev pub ending_status : Failure → ℕ
ending_status failure.Word = 2
ending_status (failure.Stream stream fault) = 1
ending_status failure.StorageSize = 2
ending_status failure.Memory = 1
