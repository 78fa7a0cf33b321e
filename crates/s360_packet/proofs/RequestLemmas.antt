-- A request that is written is read.
use Rattle.std.proofs.Common.{◌≡◌, ◌*◌, ◌++◌, ◌∷◌, ℕ, List, Ok, true, false, refl, length, nat_eq, eq-eqb, arith, ne_eqb}
use Rattle.s360_packet.specs.Hexadecimal.{bytes_text, number_text, word_text}
use Rattle.s360_packet.specs.Requests.{reading_of, write_reading, breakpoint_reading, thread_in, bytes_in}
use Rattle.s360_packet.specs.RequestTexts.{request_text, binary_write_text, write_text, two_texts, thread_text, IsRequest, IsThread, IsWord, IsData}
use Rattle.s360_packet.specs.declared.request.Request.{Request}
use Rattle.s360_packet.specs.declared.request.Request.TheVariants.{Stopped, Registers, WriteRegisters, Register, WriteRegister, Storage, WriteStorage, Step, Continue, StepBack, ContinueBack, Insert, InsertIf, Remove, Supported, Description, MemoryMap, HasMoved, Select, IsAlive, CurrentThread, Attached, FirstThreads, NextThreads, StopAcknowledging, Command, Extend, Restart, Run, Detach, Kill, KillProcess}
use Rattle.s360_packet.specs.declared.request.Breakpoint.{Breakpoint}
use Rattle.s360_packet.specs.declared.request.Breakpoint.TheVariants.{Software, Hardware}
use Rattle.s360_packet.specs.declared.request.Point.TheVariants.{Break, Watch}
use Rattle.s360_packet.specs.declared.request.Watchpoint.TheVariants.{Write, Read, Access}
use Rattle.s360_packet.specs.declared.request.Thread.{Thread}
use Rattle.s360_packet.specs.declared.request.Thread.TheVariants.{Every, Any, Numbered}
use Rattle.s360_packet.proofs.BytesLemmas.{bytes_read, length-bytes_text}
use Rattle.s360_packet.proofs.FieldLemmas.{number_is_none, number_read, word_read, two_read, two_without_colon, two_without_semicolon, number_without_equals, parted_at, not_parted}

thread_read : (thread : Thread) → IsThread thread → thread_in (thread_text thread) ≡ Ok thread
thread_read Every is = refl
thread_read Any is = refl
thread_read (Numbered n) is =
    let some : nat_eq n 0 ≡ false = ne_eqb n 0 is.1
    in rw (number_is_none n is.0, number_read n is.0, some) refl

write_read : (at : ℕ) (bytes : List ℕ) → IsWord at → IsData bytes → write_reading 2 bytes_in (write_text at bytes) ≡ Ok (WriteStorage at bytes)
write_read at bytes low is =
    let count : ℕ = length bytes
    in let same : nat_eq (length (bytes_text bytes)) (2 * count) ≡ true = eq-eqb (length (bytes_text bytes)) (2 * count) (length-bytes_text bytes is.0)
    in rw (parted_at 0x3A (two_texts at count) (bytes_text bytes) (two_without_colon at count low is.1), two_read at count low is.1, same, bytes_read bytes is.0) refl

pub binary_read_back : (at : ℕ) (bytes : List ℕ) → IsWord at → IsData bytes → reading_of (binary_write_text at bytes) ≡ Ok (WriteStorage at bytes)
binary_read_back at bytes low is =
    let count : ℕ = length bytes
    in let same : nat_eq (length bytes) (1 * count) ≡ true = eq-eqb (length bytes) (1 * count) (omega arith)
    in rw (parted_at 0x3A (two_texts at count) bytes (two_without_colon at count low is.1), two_read at count low is.1, same) refl

insert_read : (point : Breakpoint) (at kind : ℕ) → IsWord at → IsWord kind → breakpoint_reading point (two_texts at kind) ≡ Ok (Insert (Break point) at kind)
insert_read point at kind low high = rw (not_parted 0x3B (two_texts at kind) (two_without_semicolon at kind low high), two_read at kind low high) refl

insert_if_read : (point : Breakpoint) (at kind : ℕ) (conditions : List ℕ) → IsWord at → IsWord kind
    → breakpoint_reading point (two_texts at kind ++ 0x3B ∷ conditions) ≡ Ok (InsertIf point at kind conditions)
insert_if_read point at kind conditions low high =
    rw (parted_at 0x3B (two_texts at kind) conditions (two_without_semicolon at kind low high), two_read at kind low high) refl

pub request_read_back : (request : Request) → IsRequest request → reading_of (request_text request) ≡ Ok request
request_read_back (WriteRegisters bytes) is = rw (bytes_read bytes is.0) refl
request_read_back (Register number) is = rw (number_read number is) refl
request_read_back (WriteRegister number word) is =
    rw (parted_at 0x3D (number_text number) (word_text word) (number_without_equals number is.0), number_read number is.0, word_read word is.1) refl
request_read_back (Storage at count) is = rw (two_read at count is.0 is.1) refl
request_read_back (WriteStorage at bytes) is = write_read at bytes is.0 is.1
request_read_back (Insert (Break Software) at kind) is = insert_read Software at kind is.0 is.1
request_read_back (Insert (Break Hardware) at kind) is = insert_read Hardware at kind is.0 is.1
request_read_back (Insert (Watch Write) at kind) is = rw (two_read at kind is.0 is.1) refl
request_read_back (Insert (Watch Read) at kind) is = rw (two_read at kind is.0 is.1) refl
request_read_back (Insert (Watch Access) at kind) is = rw (two_read at kind is.0 is.1) refl
request_read_back (InsertIf Software at kind conditions) is = insert_if_read Software at kind conditions is.0 is.1
request_read_back (InsertIf Hardware at kind conditions) is = insert_if_read Hardware at kind conditions is.0 is.1
request_read_back (Remove (Break Software) at kind) is = rw (two_read at kind is.0 is.1) refl
request_read_back (Remove (Break Hardware) at kind) is = rw (two_read at kind is.0 is.1) refl
request_read_back (Remove (Watch Write) at kind) is = rw (two_read at kind is.0 is.1) refl
request_read_back (Remove (Watch Read) at kind) is = rw (two_read at kind is.0 is.1) refl
request_read_back (Remove (Watch Access) at kind) is = rw (two_read at kind is.0 is.1) refl
request_read_back (Description offset count) is = rw (two_read offset count is.0 is.1) refl
request_read_back (MemoryMap offset count) is = rw (two_read offset count is.0 is.1) refl
request_read_back (Select thread) is = rw (thread_read thread is) refl
request_read_back (IsAlive thread) is = rw (thread_read thread is) refl
request_read_back (Command bytes) is = rw (bytes_read bytes is.0) refl
request_read_back (KillProcess number) is = rw (number_read number is) refl
request_read_back other is = refl
