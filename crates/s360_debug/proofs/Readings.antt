-- What the answer to a line tells of its reading.
use Rattle.std.proofs.Common.{◌≡◌, ◌≢◌, sym, refl, Result, Ok, Err, IfOk, OnOk, OnErr, inl, inr, List, ℕ}
use Rattle.s360_language.specs.declared.command.Command.{Command}
use Rattle.s360_language.specs.declared.command.LineFault.{LineFault}
use Rattle.s360_language.specs.declared.command.LineFault.TheVariants.{Memory}
use Rattle.s360_language.specs.Reading.{Reading, Reads}
use Rattle.s360_debug.specs.Debugger.{Debugger}
use Rattle.s360_debug.specs.Answers.{fault_text}
use Rattle.s360_debug.specs.Script.{answer_to_reading, state_after_reading, StandsAfterReading}
use Rattle.s360_debug.proofs.StandingLemmas.{StandsPartly-unmoved}

pub ok_reading : (r : Reading) (c : Command) → Reads r (Ok c) → r ≡ Ok c
ok_reading (Ok d) c (inl h) = sym h
ok_reading (Ok d) c (inr h) = cc h.1
ok_reading (Err f) c h = cc

fault_reading : (r : Reading) (f : LineFault) → f ≢ Memory → Reads r (Err f) → r ≡ Err f
fault_reading (Ok d) f n (inl h) = cc
fault_reading (Ok d) f n (inr h) = absurd (n (cc h.1))
fault_reading (Err g) f n h = sym h

-- what stands may be as it was
pub unmoved : (r : Reading) (d : Debugger) → StandsAfterReading r d d.session
unmoved (Ok c) d = StandsPartly-unmoved d c
unmoved (Err f) d = refl

-- a faulty line answers its fault, or memory is wanting, and what the debugger keeps is as it was
pub record IsFaultAnswered {E : Type 0} (reading : Reading) (d : Debugger) (result : Result (List ℕ) E) : Type 0 where
  pub text : IfOk result (λ t. t ≡ answer_to_reading d reading)
  pub state : OnOk result (d ≡ state_after_reading d reading)
  pub memory : OnErr result (StandsAfterReading reading d d.session)

pub answer_to_fault : {E : Type 0} (reading : Reading) (f : LineFault) (d : Debugger) (result : Result (List ℕ) E)
    → Reads reading (Err f) → IfOk result (λ t. (t ≡ fault_text f) × (f ≢ Memory)) → IsFaultAnswered reading d result
answer_to_fault reading f d (Ok t) h k =
    let is : reading ≡ Err f = fault_reading reading f k.1 h
    in record { text = rw is k.0; state = rw is refl; memory = tt }
answer_to_fault reading f d (Err e) h k = record { text = tt; state = tt; memory = unmoved reading d }
