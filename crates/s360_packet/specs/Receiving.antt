-- What a stream of bytes means to who receives it (gdb manual, "Remote Serial Protocol", "Overview" and
-- "Interrupts").
use Rattle.std.specs.Prelude.{ℕ, ◌+◌, ◌*◌, ◌%◌, nat_eq, nat_lt, Bool, true, false, if◌then◌else◌, Option, Some, None, List, [], ◌∷◌, ◌++◌, length, bit_xor}
use Rattle.std.specs.Char.{digit_value, is_digit}
use Rattle.s360_packet.specs.declared.receiver.Stage.{Stage}
use Rattle.s360_packet.specs.declared.receiver.Stage.TheVariants.{Between, Data, Escape, FirstDigit, LastDigit}
use Rattle.s360_packet.specs.declared.receiver.Received.{Received}
use Rattle.s360_packet.specs.declared.receiver.Received.TheVariants.{Packet, TooLong, Damaged, Interrupt}
use Rattle.s360_packet.specs.declared.receiver.Acknowledging.{Acknowledging}
use Rattle.s360_packet.specs.declared.receiver.Acknowledging.TheVariants.{On, Off}

-- where the next byte stands; how many bytes of data were told; of the packet that came last or is coming
-- the data, with nothing escaped, the sum so far modulo 256, and whether data was left out
pub record Receiving : Type 0 where
  pub stage : Stage
  pub size : ℕ
  pub bytes : List ℕ
  pub total : ℕ
  pub overlong : Bool

-- no packet has come
abbrev pub between_packets : ℕ → Receiving
between_packets size = record { stage = Between; size = size; bytes = []; total = 0; overlong = false }

-- a packet begins
abbrev pub begun : Receiving → Receiving
begun r = record r { stage = Data; bytes = []; total = 0; overlong = false }

-- a packet has ended
abbrev pub ended : Receiving → Receiving
ended r = record r { stage = Between }

-- a byte counts in the sum
abbrev pub counted : Receiving → ℕ → Receiving
counted r byte = record r { total = (r.total + byte) % 256 }

-- a byte more of the data, which is left out where there are as many as were told
abbrev pub with_data : Receiving → ℕ → Receiving
with_data r value =
    if nat_lt (length r.bytes) r.size
    then record r { stage = Data; bytes = r.bytes ++ value ∷ [] }
    else record r { stage = Data; overlong = true }

-- a byte of the data: `#` ends it, `}` escapes the byte behind it
abbrev pub after_data : Receiving → ℕ → Receiving
after_data r byte =
    if nat_eq byte 0x23 then record r { stage = FirstDigit }
    else (if nat_eq byte 0x7D then record (counted r byte) { stage = Escape }
    else with_data (counted r byte) byte)

-- an escaped byte; `#` ends the packet, since it escapes nothing
abbrev pub after_escape : Receiving → ℕ → Receiving
after_escape r byte = if nat_eq byte 0x23 then ended r else with_data (counted r byte) (bit_xor byte 0x20)

-- the first digit of the sum
abbrev pub after_first : Receiving → ℕ → Receiving
after_first r byte = if is_digit byte 16 then record r { stage = LastDigit (digit_value byte) } else ended r

abbrev pub after_in : Stage → Receiving → ℕ → Receiving
after_in Between r byte = r
after_in Data r byte = after_data r byte
after_in Escape r byte = after_escape r byte
after_in FirstDigit r byte = after_first r byte
after_in (LastDigit first) r byte = ended r

-- the state after a byte; `$` begins a packet wherever it stands
abbrev pub after_byte : Receiving → ℕ → Receiving
after_byte r byte = if nat_eq byte 0x24 then begun r else after_in r.stage r byte

-- what comes with the last digit of a sum: the two digits have to be the sum
abbrev pub whole_packet : Receiving → ℕ → ℕ → Received
whole_packet r first byte =
    if is_digit byte 16 then (if nat_eq (first * 16 + digit_value byte) r.total then (if r.overlong then TooLong else Packet) else Damaged)
    else Damaged

-- between packets only Ctrl-C means something, by which gdb's user interrupts the machine
abbrev pub received_between : ℕ → Option Received
received_between byte = if nat_eq byte 0x03 then Some Interrupt else None

abbrev pub received_in : Stage → Receiving → ℕ → Option Received
received_in Between r byte = received_between byte
received_in Data r byte = None
received_in Escape r byte = if nat_eq byte 0x23 then Some Damaged else None
received_in FirstDigit r byte = if is_digit byte 16 then None else Some Damaged
received_in (LastDigit first) r byte = Some (whole_packet r first byte)

-- what a byte completes
abbrev pub received_at : Receiving → ℕ → Option Received
received_at r byte = if nat_eq byte 0x24 then None else received_in r.stage r byte

-- the state after some bytes, one after another, and what came at each
abbrev pub after_bytes : Receiving → List ℕ → Receiving
after_bytes r [] = r
after_bytes r (byte ∷ bytes) = after_bytes (after_byte r byte) bytes

abbrev pub received_along : Receiving → List ℕ → List (Option Received)
received_along r [] = []
received_along r (byte ∷ bytes) = received_at r byte ∷ received_along (after_byte r byte) bytes

-- `+` for a packet that was right, `-` for one that wasn't; Ctrl-C is no packet
abbrev pub acknowledgement_of : Acknowledging → Received → Option ℕ
acknowledgement_of Off came = None
acknowledgement_of On Interrupt = None
acknowledgement_of On Damaged = Some 0x2D
acknowledgement_of On came = Some 0x2B
