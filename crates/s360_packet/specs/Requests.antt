-- The reading of a packet's data as a request (gdb manual, "Remote Serial Protocol", "Packets" and "General Query
-- Packets"). Fields are hexadecimal numbers without a sign, parted by `,` `:` `;` or `=`.
use Rattle.std.specs.Prelude.{◌≡◌, ◌⊎◌, ℕ, ◌+◌, ◌*◌, nat_eq, Bool, if◌then◌else◌, Option, None, Some, Result, Ok, Err, List, codes, take, drop, length, ⊤}
use Rattle.std.specs.Prelude.{position, option_map, ok_or}
use Rattle.std.specs.Cmp.Lexicographic.{pointwise}
use Rattle.std.specs.Result.{result_ok}
use Rattle.hex.specs.Hex.{decode_of}
use Rattle.s360_text.specs.Digits.{number_of_digits}
use Rattle.s360_packet.specs.declared.request.Breakpoint.{Breakpoint}
use Rattle.s360_packet.specs.declared.request.Breakpoint.TheVariants.{Software, Hardware}
use Rattle.s360_packet.specs.declared.request.Point.{Point}
use Rattle.s360_packet.specs.declared.request.Point.TheVariants.{Break, Watch}
use Rattle.s360_packet.specs.declared.request.Watchpoint.TheVariants.{Write, Read, Access}
use Rattle.s360_packet.specs.declared.request.Thread.{Thread}
use Rattle.s360_packet.specs.declared.request.Thread.TheVariants.{Every, Any, Numbered}
use Rattle.s360_packet.specs.declared.request.Request.{Request}
use Rattle.s360_packet.specs.declared.request.Request.TheVariants.{Stopped, Registers, WriteRegisters, Register, WriteRegister, Storage, WriteStorage}
use Rattle.s360_packet.specs.declared.request.Request.TheVariants.{Step, Continue, StepBack, ContinueBack, Insert, InsertIf, Remove, Command, HasMoved}
use Rattle.s360_packet.specs.declared.request.Request.TheVariants.{Supported, Description, MemoryMap, Extend, Restart, Run, Select, IsAlive, CurrentThread}
use Rattle.s360_packet.specs.declared.request.Request.TheVariants.{Attached, FirstThreads, NextThreads, StopAcknowledging, Detach, Kill, KillProcess}
use Rattle.s360_packet.specs.declared.request.RequestFault.{RequestFault}
use Rattle.s360_packet.specs.declared.request.RequestFault.TheVariants.{Unknown, Malformed, Memory}

-- a part of the data that is read, or why it isn't
abbrev pub Parsed : Type 0 → Type 0
Parsed V = Result V RequestFault

abbrev pub Reading : Type 0
Reading = Parsed Request

-- what follows a part that is right
abbrev pub and_then : {V W : Type 0} → Parsed V → (V → Parsed W) → Parsed W
and_then (Ok v) next = next v
and_then (Err f) next = Err f

abbrev pub is_text : List ℕ → List ℕ → Bool
is_text text name = pointwise nat_eq text name

-- what stands behind a name with which a text begins
abbrev pub behind : List ℕ → List ℕ → Option (List ℕ)
behind name text = if is_text (take (length name) text) name then Some (drop (length name) text) else None

-- what stands before and after the first such byte
abbrev pub parted : ℕ → List ℕ → Parsed (List ℕ × List ℕ)
parted separator text = ok_or (option_map (λ n. (take n text, drop (n + 1) text)) (position (λ b. nat_eq b separator) text)) Malformed

-- a number of 1 to 8 hexadecimal digits
abbrev pub number_in : List ℕ → Parsed ℕ
number_in text = ok_or (number_of_digits 16 8 text) Malformed

-- a word in 8 hexadecimal digits
abbrev pub word_in : List ℕ → Parsed ℕ
word_in text = if nat_eq (length text) 8 then number_in text else Err Malformed

-- two numbers, parted by `,`
abbrev pub two_numbers : List ℕ → Parsed (ℕ × ℕ)
two_numbers text = and_then (parted 0x2C text) (λ parts. and_then (number_in parts.0) (λ first. and_then (number_in parts.1) (λ second. Ok (first, second))))

-- bytes of two hexadecimal digits each
abbrev pub bytes_in : List ℕ → Parsed (List ℕ)
bytes_in text = ok_or (result_ok (decode_of text)) Malformed

-- `-1` for all threads, `0` for any, else the number of one
abbrev pub thread_numbered : ℕ → Thread
thread_numbered n = if nat_eq n 0 then Any else Numbered n

abbrev pub thread_in : List ℕ → Parsed Thread
thread_in text = if is_text text (codes "-1") then Ok Every else and_then (number_in text) (λ n. Ok (thread_numbered n))

-- a query of nothing but its name; `qSupported` may have what gdb can do behind it
abbrev pub named_query : List ℕ → Option Request
named_query text =
    if is_text text (codes "qSupported") then Some Supported
    else (if is_text text (codes "qC") then Some CurrentThread
    else (if is_text text (codes "qAttached") then Some Attached
    else (if is_text text (codes "qfThreadInfo") then Some FirstThreads
    else (if is_text text (codes "qsThreadInfo") then Some NextThreads
    else (if is_text text (codes "QStartNoAckMode") then Some StopAcknowledging
    else (if is_text text (codes "qs360.moved") then Some HasMoved
    else None))))))

-- a request of nothing but its name
abbrev pub named_request : List ℕ → Option Request
named_request text =
    if is_text text (codes "?") then Some Stopped
    else (if is_text text (codes "g") then Some Registers
    else (if is_text text (codes "s") then Some Step
    else (if is_text text (codes "c") then Some Continue
    else (if is_text text (codes "bs") then Some StepBack
    else (if is_text text (codes "bc") then Some ContinueBack
    else (if is_text text (codes "D") then Some Detach
    else (if is_text text (codes "k") then Some Kill
    else (if is_text text (codes "!") then Some Extend
    else named_query text))))))))

-- `m` address `,` count
abbrev pub storage_reading : List ℕ → Reading
storage_reading text = and_then (two_numbers text) (λ field. Ok (Storage field.0 field.1))

-- address `,` count `:` and as many bytes, which `M` has in two digits each, and `X` as they are
abbrev pub write_reading : ℕ → (List ℕ → Parsed (List ℕ)) → List ℕ → Reading
write_reading width bytes_of text =
    and_then (parted 0x3A text) (λ parts.
    and_then (two_numbers parts.0) (λ field.
    if nat_eq (length parts.1) (width * field.1)
    then and_then (bytes_of parts.1) (λ bytes. Ok (WriteStorage field.0 bytes))
    else Err Malformed))

-- `p` number
abbrev pub register_reading : List ℕ → Reading
register_reading text = and_then (number_in text) (λ number. Ok (Register number))

-- `P` number `=` word
abbrev pub write_register_reading : List ℕ → Reading
write_register_reading text =
    and_then (parted 0x3D text) (λ parts.
    and_then (number_in parts.0) (λ number.
    and_then (word_in parts.1) (λ word. Ok (WriteRegister number word))))

-- `G` bytes
abbrev pub write_registers_reading : List ℕ → Reading
write_registers_reading text = and_then (bytes_in text) (λ bytes. Ok (WriteRegisters bytes))

-- `Z` and `z`: type `,` address `,` kind
abbrev pub insert_reading : Point → List ℕ → Reading
insert_reading point text = and_then (two_numbers text) (λ field. Ok (Insert point field.0 field.1))

-- `Z` of a breakpoint may have `;` and conditions behind it, which are taken as they stand
abbrev pub breakpoint_parted : Breakpoint → List ℕ → Parsed (List ℕ × List ℕ) → Reading
breakpoint_parted point text (Ok parts) = and_then (two_numbers parts.0) (λ field. Ok (InsertIf point field.0 field.1 parts.1))
breakpoint_parted point text (Err f) = insert_reading (Break point) text

abbrev pub breakpoint_reading : Breakpoint → List ℕ → Reading
breakpoint_reading point text = breakpoint_parted point text (parted 0x3B text)

abbrev pub remove_reading : Point → List ℕ → Reading
remove_reading point text = and_then (two_numbers text) (λ field. Ok (Remove point field.0 field.1))

-- `H` operation thread, and `T` thread
abbrev pub select_reading : List ℕ → Reading
select_reading text = and_then (thread_in text) (λ thread. Ok (Select thread))

abbrev pub alive_reading : List ℕ → Reading
alive_reading text = and_then (thread_in text) (λ thread. Ok (IsAlive thread))

-- annex `:` offset `,` count, of the one annex that there is
abbrev pub extent_in : List ℕ → List ℕ → Parsed (ℕ × ℕ)
extent_in annex text = and_then (ok_or (behind annex text) Malformed) two_numbers

-- `qXfer:features:read:`, where the annex is `target.xml`, and `qXfer:memory-map:read:`, where it is empty
abbrev pub description_reading : List ℕ → Reading
description_reading text = and_then (extent_in (codes "target.xml:") text) (λ field. Ok (Description field.0 field.1))

abbrev pub memory_map_reading : List ℕ → Reading
memory_map_reading text = and_then (extent_in (codes ":") text) (λ field. Ok (MemoryMap field.0 field.1))

-- `qRcmd,` bytes
abbrev pub command_reading : List ℕ → Reading
command_reading text = and_then (bytes_in text) (λ bytes. Ok (Command bytes))

-- `vKill;` number
abbrev pub kill_reading : List ℕ → Reading
kill_reading text = and_then (number_in text) (λ number. Ok (KillProcess number))

-- the reading of what stands behind a name, or another where the name isn't there
abbrev pub reading_behind : Option (List ℕ) → (List ℕ → Reading) → Reading → Reading
reading_behind (Some rest) reading other = reading rest
reading_behind None reading other = other

abbrev pub point_out_reading : List ℕ → Reading
point_out_reading text =
    reading_behind (behind (codes "z0,") text) (remove_reading (Break Software))
    (reading_behind (behind (codes "z1,") text) (remove_reading (Break Hardware))
    (reading_behind (behind (codes "z2,") text) (remove_reading (Watch Write))
    (reading_behind (behind (codes "z3,") text) (remove_reading (Watch Read))
    (reading_behind (behind (codes "z4,") text) (remove_reading (Watch Access))
    (Err Unknown)))))

abbrev pub point_reading : List ℕ → Reading
point_reading text =
    reading_behind (behind (codes "Z2,") text) (insert_reading (Watch Write))
    (reading_behind (behind (codes "Z3,") text) (insert_reading (Watch Read))
    (reading_behind (behind (codes "Z4,") text) (insert_reading (Watch Access))
    (point_out_reading text)))

-- what stands behind `vRun;` and `R` is of no account
abbrev pub query_reading : List ℕ → Reading
query_reading text =
    reading_behind (behind (codes "qSupported:") text) (λ features. Ok Supported)
    (reading_behind (behind (codes "qXfer:features:read:") text) description_reading
    (reading_behind (behind (codes "qXfer:memory-map:read:") text) memory_map_reading
    (reading_behind (behind (codes "vKill;") text) kill_reading
    (reading_behind (behind (codes "vRun;") text) (λ program. Ok Run)
    (reading_behind (behind (codes "R") text) (λ rest. Ok Restart)
    (point_reading text))))))

-- the address that `s` and `c` may have in the standard isn't taken here
abbrev pub thread_reading : List ℕ → Reading
thread_reading text =
    reading_behind (behind (codes "s") text) (λ address. Err Malformed)
    (reading_behind (behind (codes "c") text) (λ address. Err Malformed)
    (reading_behind (behind (codes "Hg") text) select_reading
    (reading_behind (behind (codes "Hc") text) select_reading
    (reading_behind (behind (codes "T") text) alive_reading
    (query_reading text)))))

abbrev pub fields_reading : List ℕ → Reading
fields_reading text =
    reading_behind (behind (codes "m") text) storage_reading
    (reading_behind (behind (codes "M") text) (write_reading 2 bytes_in)
    (reading_behind (behind (codes "X") text) (write_reading 1 (λ bytes. Ok bytes))
    (reading_behind (behind (codes "p") text) register_reading
    (reading_behind (behind (codes "P") text) write_register_reading
    (reading_behind (behind (codes "G") text) write_registers_reading
    (reading_behind (behind (codes "qRcmd,") text) command_reading
    (reading_behind (behind (codes "Z0,") text) (breakpoint_reading Software)
    (reading_behind (behind (codes "Z1,") text) (breakpoint_reading Hardware)
    (thread_reading text)))))))))

-- a request of nothing but its name, or else one with fields
abbrev pub named_or : Option Request → Reading → Reading
named_or (Some request) other = Ok request
named_or None other = other

abbrev pub reading_of : List ℕ → Reading
reading_of text = named_or (named_request text) (fields_reading text)

-- the request holds bytes of the data, which want memory
abbrev pub TakesMemory : Request → Type 0
TakesMemory (WriteRegisters bytes) = ⊤
TakesMemory (WriteStorage at bytes) = ⊤
TakesMemory (InsertIf point at kind conditions) = ⊤
TakesMemory (Command bytes) = ⊤
TakesMemory r = ⊥

-- what may answer a reading: the fault whatever memory there is; the request, or want of memory where it takes some
abbrev pub Reads : Reading → Reading → Type 0
Reads (Err f) result = result ≡ Err f
Reads (Ok r) result = (result ≡ Ok r) ⊎ (TakesMemory r × (result ≡ Err Memory))

-- and what may answer the reading of bytes
abbrev pub ReadsBytes : Parsed (List ℕ) → Parsed (List ℕ) → Type 0
ReadsBytes (Err f) result = result ≡ Err f
ReadsBytes (Ok bytes) result = (result ≡ Ok bytes) ⊎ (result ≡ Err Memory)
