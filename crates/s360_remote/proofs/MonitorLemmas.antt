-- Lines of the script language for the target.
use Rattle.std.proofs.Common.{◌≡◌, ◌≢◌, ◌∙◌, inr, ℕ, true, false, List, [], codes, Option, Some, None, refl, ap, sym}
use Rattle.s360_debug.specs.Debugger.{Debugger}
use Rattle.s360_language.specs.Reading.{reading_of}
use Rattle.s360_debug.specs.Lines.{is_skipped}
use Rattle.s360_debug.specs.Script.{answer_to_line, answer_to_reading, state_after_line, state_after_reading}
use Rattle.s360_remote.specs.Driven.{Driven, fresh}
use Rattle.s360_inquiry.specs.Reading.{Asked}
use Rattle.s360_remote.specs.Monitor.{IsMonitorAnswered, IsMonitorBegun, IsCarriedOut, IsLineBegun, debugger_of, with_debugger}

-- ---- a line is read, or skipped as a script skips it

pub answer-read : (d : Debugger) (line : List ℕ) → is_skipped line ≡ false → answer_to_line d line ≡ answer_to_reading d (reading_of line)
unfolding answer_to_line
answer-read d line h = rw h refl

pub state-read : (d : Debugger) (line : List ℕ) → is_skipped line ≡ false → state_after_line d line ≡ state_after_reading d (reading_of line)
unfolding state_after_line
state-read d line h = rw h refl

answer-skipped : (d : Debugger) (line : List ℕ) → is_skipped line ≡ true → answer_to_line d line ≡ []
unfolding answer_to_line
answer-skipped d line h = rw h refl

state-skipped : (d : Debugger) (line : List ℕ) → is_skipped line ≡ true → state_after_line d line ≡ d
unfolding state_after_line
state-skipped d line h = rw h refl

pub carried-skipped : (line : List ℕ) (d t : Driven) → is_skipped line ≡ true → line ≢ codes "help" → t ≡ fresh d → IsCarriedOut line d t []
carried-skipped line d t h other is = record {
  done = λ _. (rw (answer-skipped (debugger_of d) line h, state-skipped (debugger_of d) line h) refl, is ∙ ap (λ k. with_debugger d k) (sym (state-skipped (debugger_of d) line h)));
  help = λ same. absurd (other same);
}

-- a line that was carried out, whose text is lost
pub begun-carried : (line said : List ℕ) (d t : Driven) → IsCarriedOut line d t said → IsLineBegun line d t
begun-carried line said d t h = record { done = λ other. inr (h.done other).1; help = λ same. (h.help same).1 }

-- and so of an inquiry
pub begun-answered : (asked : Option Asked) (line said : List ℕ) (d t : Driven) → IsMonitorAnswered asked line d t said → IsMonitorBegun asked line d t
begun-answered None line said d t h = begun-carried line said d t h
begun-answered (Some asked) line said d t h = inr h.1
