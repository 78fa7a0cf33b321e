-- Requests that change nothing, and what is answered to a byte.
use Rattle.std.proofs.Common.{◌≡◌, ◌++◌, ◌∙◌, inl, inr, ℕ, Bool, true, false, List, Some, Ok, Err, refl, ap, sym, subst, append_assoc, option_to_list, ◌&&◌}
use Rattle.s360_packet.specs.Framing.{framed}
use Rattle.s360_packet.specs.Receiving.{acknowledgement_of, after_byte, received_at}
use Rattle.s360_packet.specs.Requests.{Reading, Reads, TakesMemory}
use Rattle.s360_packet.specs.declared.receiver.Received.{Received}
use Rattle.s360_packet.specs.declared.request.Payload.{Payload}
use Rattle.s360_packet.specs.declared.request.Breakpoint.{Breakpoint}
use Rattle.s360_packet.specs.declared.request.Point.{Point}
use Rattle.s360_packet.specs.declared.request.Request.{Request}
use Rattle.s360_packet.specs.declared.request.Request.TheVariants.{WriteRegisters, WriteRegister, WriteStorage, Step, Continue, StepBack, ContinueBack, Insert, InsertIf, Remove, HasMoved, Restart, Run, Command, Kill}
use Rattle.s360_packet.specs.declared.request.RequestFault.{RequestFault}
use Rattle.s360_packet.specs.declared.request.RequestFault.TheVariants as fault
use Rattle.s360_remote.specs.Connecting.{Connected, IsAnswered, IsCompleted, IsInterrupted, IsMet, IsReceived, IsTaken, answer_to_fault, errand_of, going, is_to_move}
use Rattle.s360_remote.specs.Driven.{Driven}
use Rattle.s360_remote.specs.ErrorNumbers.{error_of}
use Rattle.s360_remote.specs.Replies.{packet_of}
use Rattle.s360_remote.specs.Serving.{IsRequestBegun, IsServed, machine_now, then_after, told}
use Rattle.s360_remote.specs.declared.errand.Errand.{Errand}
use Rattle.s360_remote.specs.declared.errand.Errand.TheVariants.{Nothing}
use Rattle.s360_remote.specs.declared.error_number.ErrorNumber.TheVariants.{Memory}
use Rattle.s360_remote.specs.declared.serving.Then.{Then}

-- a request that changes nothing was answered
pub record ChangesNothing (request : Request) : Type 0 where
  pub registers : (x : Payload) → request ≡ WriteRegisters x → ⊥
  pub register : (x y : ℕ) → request ≡ WriteRegister x y → ⊥
  pub storage : (x : ℕ) (y : Payload) → request ≡ WriteStorage x y → ⊥
  pub step : request ≡ Step → ⊥
  pub continue : request ≡ Continue → ⊥
  pub step_back : request ≡ StepBack → ⊥
  pub continue_back : request ≡ ContinueBack → ⊥
  pub insert : (x : Point) (y z : ℕ) → request ≡ Insert x y z → ⊥
  pub insert_if : (x : Breakpoint) (y z : ℕ) (w : Payload) → request ≡ InsertIf x y z w → ⊥
  pub remove : (x : Point) (y z : ℕ) → request ≡ Remove x y z → ⊥
  pub command : (x : Payload) → request ≡ Command x → ⊥
  pub has_moved : request ≡ HasMoved → ⊥
  pub run : request ≡ Run → ⊥
  pub restart : request ≡ Restart → ⊥
  pub kill : request ≡ Kill → ⊥

pub served-told : (request : Request) (d : Driven) → ChangesNothing request → IsServed request d d (then_after request) (framed (told request (machine_now d))) × IsRequestBegun request d d
served-told (WriteRegisters x) d h = absurd (h.registers x refl)
served-told (WriteRegister x y) d h = absurd (h.register x y refl)
served-told (WriteStorage x y) d h = absurd (h.storage x y refl)
served-told Step d h = absurd (h.step refl)
served-told Continue d h = absurd (h.continue refl)
served-told StepBack d h = absurd (h.step_back refl)
served-told ContinueBack d h = absurd (h.continue_back refl)
served-told (Insert x y z) d h = absurd (h.insert x y z refl)
served-told (InsertIf x y z w) d h = absurd (h.insert_if x y z w refl)
served-told (Remove x y z) d h = absurd (h.remove x y z refl)
served-told HasMoved d h = absurd (h.has_moved refl)
served-told Restart d h = absurd (h.restart refl)
served-told Run d h = absurd (h.run refl)
served-told (Command x) d h = absurd (h.command x refl)
served-told Kill d h = absurd (h.kill refl)
served-told other d h = ((refl, refl, refl), refl)

-- what it made and what it was answered
pub told-served : (request : Request) (d : Driven) (next : Then) (old new : List ℕ) → ChangesNothing request → (next ≡ then_after request) × (new ≡ old ++ framed (told request (machine_now d)))
    → (packets : List ℕ) × IsServed request d d next packets × (new ≡ old ++ packets)
told-served request d next old new h is =
    (framed (told request (machine_now d)), subst (λ n. IsServed request d d n (framed (told request (machine_now d)))) (sym is.0) (served-told request d h).0, is.1)

-- ---- a packet's data

-- a request for which memory is taken is none to move the machine
stays : (r : Request) → TakesMemory r → is_to_move r ≡ false
stays (WriteRegisters x) takes = refl
stays (WriteStorage x y) takes = refl
stays (InsertIf x y z w) takes = refl
stays (Command x) takes = refl
stays other takes = absurd takes

and-false : (b m : Bool) → m ≡ false → (b && m) ≡ false
and-false true m h = h
and-false false m h = refl

pub answered-fault : (reading : Reading) (c : Connected) (d : Driven) (f : RequestFault) (old new : List ℕ) → Reads reading (Err f) → new ≡ old ++ packet_of (answer_to_fault f)
    → (packets : List ℕ) × IsAnswered reading c d c d Nothing packets × (new ≡ old ++ packets)
answered-fault (Err g) c d f old new h is =
    let same : f ≡ g = cc
    in (packet_of (answer_to_fault g), ((refl, refl, refl), refl), is ∙ ap (λ x. old ++ packet_of (answer_to_fault x)) same)
answered-fault (Ok r) c d f old new (inl h) is = absurd (cc)
answered-fault (Ok r) c d f old new (inr h) is =
    let wrong = h.1
    in let same : f ≡ fault.Memory = cc
    in let met : IsMet (c.interrupted && is_to_move r) r c d c d Nothing (packet_of (error_of Memory))
    = subst (λ b. IsMet b r c d c d Nothing (packet_of (error_of Memory))) (sym (and-false c.interrupted (is_to_move r) (stays r h.0))) (inr (inl refl, refl, refl, refl))
    in (packet_of (error_of Memory), met, is ∙ ap (λ x. old ++ packet_of (answer_to_fault x)) same)

-- what a request that was read makes
of-request : (reading : Reading) (c e : Connected) (d t : Driven) (request : Request) (errand : Errand) (packets : List ℕ) → Reads reading (Ok request)
    → IsMet (c.interrupted && is_to_move request) request c d e t errand packets → IsAnswered reading c d e t errand packets
of-request (Err g) c e d t request errand packets h met = absurd (cc)
of-request (Ok r) c e d t request errand packets (inl h) met = let same : request ≡ r = cc in subst (λ x. IsMet (c.interrupted && is_to_move x) x c d e t errand packets) same met
of-request (Ok r) c e d t request errand packets (inr h) met = let wrong = h.1 in absurd (cc)

pub answered-interrupted : (reading : Reading) (c e : Connected) (d : Driven) (request : Request) (packets : List ℕ) → Reads reading (Ok request) → (c.interrupted && is_to_move request) ≡ true
    → IsInterrupted c e packets → IsAnswered reading c d e d Nothing packets
answered-interrupted reading c e d request packets h is told =
    of-request reading c e d d request Nothing packets h (subst (λ b. IsMet b request c d e d Nothing packets) (sym is) (refl, refl, told))

pub answered-request : (reading : Reading) (c e : Connected) (d t : Driven) (request : Request) (next : Then) (errand : Errand) (packets : List ℕ) → Reads reading (Ok request)
    → (c.interrupted && is_to_move request) ≡ false → IsServed request d t next packets → e ≡ going c next → errand ≡ errand_of next → IsAnswered reading c d e t errand packets
answered-request reading c e d t request next errand packets h goes served is count =
    of-request reading c e d t request errand packets h (subst (λ b. IsMet b request c d e t errand packets) (sym goes) (inl (next, served, is, count)))

pub answered-memory : (reading : Reading) (c : Connected) (d t : Driven) (request : Request) → Reads reading (Ok request) → (c.interrupted && is_to_move request) ≡ false → IsRequestBegun request d t
    → IsAnswered reading c d c t Nothing (packet_of (error_of Memory))
answered-memory reading c d t request h goes begun =
    of-request reading c c d t request Nothing (packet_of (error_of Memory)) h
    (subst (λ b. IsMet b request c d c t Nothing (packet_of (error_of Memory))) (sym goes) (inr (inr begun, refl, refl, refl)))

-- ---- a byte

pub taken-from : (byte : ℕ) (c e : Connected) (d t : Driven) (errand : Errand) (came : Received) (old said new : List ℕ) → c.ended ≡ false → received_at c.receiving byte ≡ Some came
    → said ≡ old ++ option_to_list (acknowledgement_of c.acknowledging came)
    → (packets : List ℕ) × IsReceived came (record c { receiving = after_byte c.receiving byte }) d e t errand packets × (new ≡ said ++ packets)
    → (bytes : List ℕ) × IsTaken c.ended byte c d e t errand bytes × (new ≡ old ++ bytes)
taken-from byte c e d t errand came old said new here at acknowledged h =
    let acknowledgement : List ℕ = option_to_list (acknowledgement_of c.acknowledging came)
    in let completed : IsCompleted (received_at c.receiving byte) (record c { receiving = after_byte c.receiving byte }) d e t errand (acknowledgement ++ h.0)
    = subst (λ o. IsCompleted o (record c { receiving = after_byte c.receiving byte }) d e t errand (acknowledgement ++ h.0)) (sym at) (h.0, h.1, refl)
    in (
      acknowledgement ++ h.0,
      subst (λ b. IsTaken b byte c d e t errand (acknowledgement ++ h.0)) (sym here) completed,
      h.2 ∙ ap (λ l. l ++ h.0) acknowledged ∙ append_assoc old acknowledgement h.0,
    )
