-- What the definitions come to.
use Rattle.std.specs.Prelude.{◌≡◌, ◌≤◌, ◌<◌, ◌-◌, ℕ, true, not, nat_eq, Ok, Option, Some, None, List, [], ◌∷◌, ◌++◌, length, map, replicate}
use Rattle.std.specs.List.{flat_map, list_all, range_with_len}
use Rattle.s360_packet.specs.Answers.{answer_text, registers_text}
use Rattle.s360_packet.specs.Target.{register_value}
use Rattle.s360_packet.specs.declared.answer.Answer.TheVariants.{Register}
use Rattle.s360_packet.specs.declared.target.RegisterValue.{RegisterValue}
use Rattle.s360_packet.specs.Requests.{reading_of}
use Rattle.s360_packet.specs.RequestTexts.{request_text, binary_write_text, IsRequest, IsWord, IsData}
use Rattle.s360_packet.specs.declared.request.Request.{Request}
use Rattle.s360_packet.specs.declared.request.Request.TheVariants.{WriteStorage}
use Rattle.s360_packet.specs.Framing.{framed}
use Rattle.s360_packet.specs.Receiving.{Receiving, received_between, received_along, after_bytes}
use Rattle.s360_packet.specs.declared.receiver.Stage.TheVariants.{Between}
use Rattle.s360_packet.specs.declared.receiver.Received.{Received}
use Rattle.s360_packet.specs.declared.receiver.Received.TheVariants.{Packet, TooLong}

-- nothing comes with all bytes but the last, and this with that
abbrev pub at_the_last : Received → ℕ → List (Option Received)
at_the_last came count = replicate (count - 1) None ++ Some came ∷ []

-- some data, sent as a packet, comes as one at its last byte: just that data
pub record IsReadBack (r : Receiving) (bytes : List ℕ) : Type 0 where
  pub received : received_along r (framed bytes) ≡ at_the_last Packet (length (framed bytes))
  pub same : (after_bytes r (framed bytes)).bytes ≡ bytes
  pub between : (after_bytes r (framed bytes)).stage ≡ Between

-- whatever the data is, if there is as much of it as was told at most, and whatever has come before
abbrev pub PacketsAreReadBack : Type 0
PacketsAreReadBack = (r : Receiving) (bytes : List ℕ) → length bytes ≤ r.size → IsReadBack r bytes

-- and if there is more, that is told at its last byte
abbrev pub PacketsTooLongAreTold : Type 0
PacketsTooLongAreTold =
    (r : Receiving) (bytes : List ℕ) → r.size < length bytes → received_along r (framed bytes) ≡ at_the_last TooLong (length (framed bytes))

-- bytes between packets change nothing, and of them only Ctrl-C completes something
abbrev pub BytesBetweenAreDropped : Type 0
BytesBetweenAreDropped =
    (r : Receiving) (bytes : List ℕ) → r.stage ≡ Between → list_all (λ byte. not (nat_eq byte 0x24)) bytes ≡ true
    → (after_bytes r bytes ≡ r) × (received_along r bytes ≡ map received_between bytes)

-- what `p` answers of a register that there is
abbrev pub answer_of_register : Option RegisterValue → List ℕ
answer_of_register (Some value) = answer_text (Register value)
answer_of_register None = []

-- `g` answers what `p` answers of each register, one after another
abbrev pub AllRegistersAreEach : Type 0
AllRegistersAreEach =
    (words : List ℕ) → length words ≡ 18
    → registers_text words ≡ flat_map (λ number. answer_of_register (register_value words number)) (range_with_len 0 51)

-- a request that is written is read as that request; so is a write of storage with its bytes as they are
abbrev pub RequestsAreReadBack : Type 0
RequestsAreReadBack = (request : Request) → IsRequest request → reading_of (request_text request) ≡ Ok request

abbrev pub BinaryWritesAreReadBack : Type 0
BinaryWritesAreReadBack =
    (at : ℕ) (bytes : List ℕ) → IsWord at → IsData bytes → reading_of (binary_write_text at bytes) ≡ Ok (WriteStorage at bytes)
