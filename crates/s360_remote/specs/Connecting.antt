-- What a byte that comes from gdb makes of a connection and its target, and what is answered (gdb manual, "Remote Serial
-- Protocol", "Packet Acknowledgment").
use Rattle.std.specs.Prelude.{◌≡◌, ◌⊎◌, ℕ, Bool, true, false, not, ◌&&◌, List, [], ◌++◌, Option, Some, None, Ok, Err, option_to_list}
use Rattle.s360_packet.specs.Receiving.{Receiving, acknowledgement_of, after_byte, between_packets, received_at}
use Rattle.s360_packet.specs.Requests.{Reading, reading_of}
use Rattle.s360_packet.specs.declared.answer.Answer.{Answer}
use Rattle.s360_packet.specs.declared.answer.Answer.TheVariants as answer
use Rattle.s360_packet.specs.declared.receiver.Acknowledging.{Acknowledging}
use Rattle.s360_packet.specs.declared.receiver.Acknowledging.TheVariants.{Off, On}
use Rattle.s360_packet.specs.declared.receiver.Received.{Received}
use Rattle.s360_packet.specs.declared.receiver.Received.TheVariants.{Packet, TooLong, Damaged, Interrupt as Interrupted}
use Rattle.s360_packet.specs.declared.answer.Stop.TheVariants.{Interrupt}
use Rattle.s360_packet.specs.declared.request.Request.{Request}
use Rattle.s360_packet.specs.declared.request.Request.TheVariants.{Step, Continue, StepBack, ContinueBack}
use Rattle.s360_packet.specs.declared.request.RequestFault.{RequestFault}
use Rattle.s360_packet.specs.declared.request.RequestFault.TheVariants as fault
use Rattle.s360_remote.specs.Driven.{Driven}
use Rattle.s360_remote.specs.ErrorNumbers.{error_of}
use Rattle.s360_remote.specs.Replies.{packet_of, stop_packet}
use Rattle.s360_remote.specs.Serving.{IsRequestBegun, IsServed}
use Rattle.s360_remote.specs.declared.errand.Errand.{Errand}
use Rattle.s360_remote.specs.declared.errand.Errand.TheVariants.{Nothing, TellDropped, Write}
use Rattle.s360_remote.specs.declared.error_number.ErrorNumber.TheVariants.{Malformed, Memory}
use Rattle.s360_remote.specs.declared.serving.Then.{Then}
use Rattle.s360_remote.specs.declared.serving.Then.TheVariants as then

-- what has come of packets, whether they are acknowledged, whether gdb starts the machine anew where it would leave it, whether its
-- user has interrupted the machine, and whether gdb has left
pub record Connected : Type 0 where
  pub receiving : Receiving
  pub acknowledging : Acknowledging
  pub extended : Bool
  pub interrupted : Bool
  pub ended : Bool

abbrev pub connected : Receiving → Acknowledging → Bool → Bool → Bool → Connected
connected receiving acknowledging extended interrupted ended =
    record { receiving = receiving; acknowledging = acknowledging; extended = extended; interrupted = interrupted; ended = ended }

-- nothing came yet
abbrev pub new_connection : Connected
new_connection = connected (between_packets 16384) On false false false

-- how a connection goes on
abbrev pub going : Connected → Then → Connected
going c then.GoOn = c
going c (then.Dropped n) = c
going c (then.Save file) = c
going c then.StopAcknowledging = record c { acknowledging = Off }
going c then.Extend = record c { extended = true }
going c then.End = record c { ended = not c.extended }

-- what is left to do: to tell how many recorded changes a write dropped, or to write a file
abbrev pub errand_of : Then → Errand
errand_of (then.Dropped n) = TellDropped n
errand_of (then.Save file) = Write file
errand_of other = Nothing

-- what tells that data is no request
abbrev pub answer_to_fault : RequestFault → Answer
answer_to_fault fault.Unknown = answer.Empty
answer_to_fault fault.Malformed = error_of Malformed
answer_to_fault fault.Memory = error_of Memory

-- nothing is asked of the target
abbrev pub IsLeft : Connected → Driven → Connected → Driven → Errand → Type 0
IsLeft c d e t errand = (e ≡ c) × (t ≡ d) × (errand ≡ Nothing)

-- a request to go on or back
abbrev pub is_to_move : Request → Bool
is_to_move Step = true
is_to_move Continue = true
is_to_move StepBack = true
is_to_move ContinueBack = true
is_to_move other = false

-- the request is carried out; or memory lacks for it
abbrev pub IsCarriedOut : Request → Connected → Driven → Connected → Driven → Errand → List ℕ → Type 0
IsCarriedOut request c d e t errand packets =
    ((next : Then) × IsServed request d t next packets × (e ≡ going c next) × (errand ≡ errand_of next))
    ⊎ (((t ≡ d) ⊎ IsRequestBegun request d t) × (e ≡ c) × (errand ≡ Nothing) × (packets ≡ packet_of (error_of Memory)))

-- gdb is told that its user has interrupted the machine, which is over then; or memory lacks for that
abbrev pub IsInterrupted : Connected → Connected → List ℕ → Type 0
IsInterrupted c e packets =
    ((e ≡ record c { interrupted = false }) × (packets ≡ stop_packet Interrupt)) ⊎ ((e ≡ c) × (packets ≡ packet_of (error_of Memory)))

-- a request to move the machine that gdb's user has interrupted is answered by that alone
abbrev pub IsMet : Bool → Request → Connected → Driven → Connected → Driven → Errand → List ℕ → Type 0
IsMet true request c d e t errand packets = (t ≡ d) × (errand ≡ Nothing) × IsInterrupted c e packets
IsMet false request c d e t errand packets = IsCarriedOut request c d e t errand packets

abbrev pub IsAnswered : Reading → Connected → Driven → Connected → Driven → Errand → List ℕ → Type 0
IsAnswered (Err f) c d e t errand packets = IsLeft c d e t errand × (packets ≡ packet_of (answer_to_fault f))
IsAnswered (Ok request) c d e t errand packets = IsMet (c.interrupted && is_to_move request) request c d e t errand packets

abbrev pub HasAnswered : Connected → Driven → Connected → Driven → Errand → List ℕ → Type 0
HasAnswered c d e t errand packets = IsAnswered (reading_of c.receiving.bytes) c d e t errand packets

-- a packet came, or gdb's user interrupts the machine
abbrev pub IsReceived : Received → Connected → Driven → Connected → Driven → Errand → List ℕ → Type 0
IsReceived Packet c d e t errand packets = HasAnswered c d e t errand packets
IsReceived TooLong c d e t errand packets = IsLeft c d e t errand × (packets ≡ packet_of (error_of Malformed))
IsReceived Damaged c d e t errand packets = IsLeft c d e t errand × (packets ≡ [])
IsReceived Interrupted c d e t errand packets = IsLeft (record c { interrupted = true }) d e t errand × (packets ≡ [])

-- a byte completed a packet, or none
abbrev pub IsCompleted : Option Received → Connected → Driven → Connected → Driven → Errand → List ℕ → Type 0
IsCompleted None c d e t errand bytes = IsLeft c d e t errand × (bytes ≡ [])
IsCompleted (Some came) c d e t errand bytes =
    (packets : List ℕ) × IsReceived came c d e t errand packets × (bytes ≡ option_to_list (acknowledgement_of c.acknowledging came) ++ packets)

-- a byte came: once gdb has left it is nothing
abbrev pub IsTaken : Bool → ℕ → Connected → Driven → Connected → Driven → Errand → List ℕ → Type 0
IsTaken true byte c d e t errand bytes = IsLeft c d e t errand × (bytes ≡ [])
IsTaken false byte c d e t errand bytes =
    IsCompleted (received_at c.receiving byte) (record c { receiving = after_byte c.receiving byte }) d e t errand bytes
