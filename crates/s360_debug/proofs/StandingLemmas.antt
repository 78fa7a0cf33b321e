-- Sessions in which more events stand.
use Rattle.std.proofs.Common.{◌≡◌, ◌⊎◌, ◌∙◌, inl, inr, List, Option, Some, Result, Ok, Err, OnErr, OnOk, ap, refl, sym, length}
use Rattle.std.proofs.Math.Seq.{take-length}
use Rattle.s360_machine.specs.declared.event.Event.{Event}
use Rattle.s360_journal.specs.Recorded.{Recorded, after_events, session_of}
use Rattle.s360_language.specs.Commands.{event_of}
use Rattle.s360_language.specs.declared.command.Command.{Command}
use Rattle.s360_language.specs.declared.command.Command.TheVariants.{Run}
use Rattle.s360_debug.specs.Debugger.{Debugger}
use Rattle.s360_debug.specs.Answers.{StandsPartly, accepted_events, accepted_of_offer}

-- none of the accepted events may stand
pub StandsPartly-unmoved : (d : Debugger) (command : Command) → StandsPartly d command d.session
StandsPartly-unmoved d command = (0, refl)

-- a command that offers an event accepts no other
accepted-offer : (d : Debugger) (command : Command) (e : Event) → event_of command ≡ Some e → accepted_events d command ≡ accepted_of_offer (session_of d.session) (Some e)
accepted-offer d (Run most) e h = absurd (cc)
accepted-offer d command e h = ap (λ (o : Option Event). accepted_of_offer (session_of d.session) o) h

-- and that event stands, or it does not
pub StandsPartly-offered : {X E : Type 0} (result : Result X E) (d : Debugger) (command : Command) (e : Event) (r : Recorded) → event_of command ≡ Some e
    → OnErr result ((r ≡ d.session) ⊎ (r ≡ after_events d.session (accepted_of_offer (session_of d.session) (Some e)))) → OnErr result (StandsPartly d command r)
StandsPartly-offered (Ok x) d command e r h stands = tt
StandsPartly-offered (Err x) d command e r h (inl none) = (0, none)
StandsPartly-offered (Err x) d command e r h (inr all) =
    let events : List Event = accepted_events d command
    in (length events, all ∙ ap (λ (es : List Event). after_events d.session es) (sym (accepted-offer d command e h) ∙ sym (take-length events)))

-- what holds holds after a success
pub OnOk-from : {X E : Type 0} (r : Result X E) (P : Type 0) → P → OnOk r P
OnOk-from (Ok x) P h = h
OnOk-from (Err e) P h = tt
