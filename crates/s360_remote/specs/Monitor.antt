-- What gdb's user is answered to a line: that of an inquiry, or the answer of the script language, and how many recorded
-- changes were dropped (own profile).
use Rattle.std.specs.Prelude.{◌≡◌, ◌≢◌, ◌⊎◌, ℕ, zero, suc, Option, Some, None, Ok, Err, List, [], ◌++◌, codes}
use Rattle.s360_model.specs.Text.{decimal}
use Rattle.s360_debug.specs.Debugger.{Debugger}
use Rattle.s360_debug.specs.Script.{StandsAfterReading, answer_to_line, state_after_line}
use Rattle.s360_language.specs.Reading.{reading_of}
use Rattle.s360_debug.specs.Answers.{fault_text}
use Rattle.s360_inquiry.specs.Answers.{Inquired, answer_to, state_after}
use Rattle.s360_inquiry.specs.Reading.{Asked}
use Rattle.s360_journal.specs.Recorded.{with_standing}
use Rattle.s360_remote.specs.Driven.{Driven, fresh}
use Rattle.s360_remote.specs.declared.monitor.TheConstants.{HELP}

-- what a line meets: the session, of which none of the record was dropped yet, and the breakpoints that lines set
abbrev pub debugger_of : Driven → Debugger
debugger_of d = record { session = (fresh d).recorded; breaks = d.own }

abbrev pub with_debugger : Driven → Debugger → Driven
with_debugger d k = record d { recorded = k.session; own = k.breaks }

-- where the target is once a line was carried out as a script's is, also one that a script skips
abbrev pub after_line : Driven → List ℕ → Driven
after_line d line = with_debugger d (state_after_line (debugger_of d) line)

-- a last line, if any were dropped
abbrev pub dropped_text : ℕ → List ℕ
dropped_text zero = []
dropped_text (suc n) = codes "dropped " ++ decimal (suc n) ++ codes " recorded changes\n"

abbrev pub monitor_text : Driven → List ℕ → List ℕ
monitor_text d line = answer_to_line (debugger_of d) line ++ dropped_text (after_line d line).recorded.dropped

-- the line was carried out; `help` changes nothing, and tells the lines
pub record IsCarriedOut (line : List ℕ) (d t : Driven) (said : List ℕ) : Type 0 where
  pub done : line ≢ codes "help" → (said ≡ monitor_text d line) × (t ≡ after_line d line)
  pub help : line ≡ codes "help" → (said ≡ HELP.now) × (t ≡ d)

-- some first ones of the events stand that it would run, or it was carried out and its text is lost
abbrev pub IsLineCut : List ℕ → Driven → Driven → Type 0
IsLineCut line d t =
    (StandsAfterReading (reading_of line) (debugger_of d) t.recorded × (t ≡ record d { recorded = t.recorded }))
    ⊎ (t ≡ after_line d line)

-- after want of memory
pub record IsLineBegun (line : List ℕ) (d t : Driven) : Type 0 where
  pub done : line ≢ codes "help" → IsLineCut line d t
  pub help : line ≡ codes "help" → t ≡ d

-- what a line asks of: the recording, and where it stood before
abbrev pub inquired_of : Driven → Inquired
inquired_of d = record { recorded = d.recorded; stood = d.stood }

-- an inquiry's answer, or what is wrong with the line
abbrev pub answer_to_asked : Inquired → Asked → List ℕ
answer_to_asked i (Ok inquiry) = answer_to i inquiry
answer_to_asked i (Err fault) = fault_text fault

-- where the session stands then
abbrev pub with_inquired : Driven → Inquired → Driven
with_inquired d i = record d { recorded = i.recorded; stood = i.stood }

abbrev pub after_asked : Driven → Asked → Driven
after_asked d (Ok inquiry) = with_inquired d (state_after (inquired_of d) inquiry)
after_asked d (Err fault) = d

-- after want of memory the recording stands at some change, and all else is as it was
abbrev pub IsAskedBegun : Driven → Driven → Type 0
IsAskedBegun d t = t ≡ record (fresh d) { recorded = with_standing (fresh d).recorded t.recorded.standing }

-- how a line is answered that reads so as an inquiry, or that is none
abbrev pub IsMonitorAnswered : Option Asked → List ℕ → Driven → Driven → List ℕ → Type 0
IsMonitorAnswered None line d t said = IsCarriedOut line d t said
IsMonitorAnswered (Some asked) line d t said = (said ≡ answer_to_asked (inquired_of (fresh d)) asked) × (t ≡ after_asked (fresh d) asked)

abbrev pub IsMonitorBegun : Option Asked → List ℕ → Driven → Driven → Type 0
IsMonitorBegun None line d t = IsLineBegun line d t
IsMonitorBegun (Some asked) line d t = IsAskedBegun d t ⊎ (t ≡ after_asked (fresh d) asked)
