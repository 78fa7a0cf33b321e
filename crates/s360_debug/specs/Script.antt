-- What a script answers (own profile): a fold over its lines that carries what the debugger keeps.
use Rattle.std.specs.Prelude.{◌≡◌, ◌<◌, ℕ, ◌+◌, if◌then◌else◌, Ok, Err, Option, List, [], ◌∷◌, ◌++◌, length, take, IfSome}
use Rattle.std.specs.Io.KnownBytes.{Appends}
use Rattle.s360_journal.specs.Recorded.{Recorded}
use Rattle.s360_language.specs.Reading.{Reading, reading_of}
use Rattle.s360_debug.specs.Debugger.{Debugger, new_debugger}
use Rattle.s360_debug.specs.Answers.{answer_to, state_after, fault_text, StandsPartly}
use Rattle.s360_debug.specs.Lines.{lines_of, is_skipped}

-- a reading's answer, and what the debugger keeps after it
abbrev pub answer_to_reading : Debugger → Reading → List ℕ
answer_to_reading d (Ok command) = answer_to d command
answer_to_reading d (Err fault) = fault_text fault

abbrev pub state_after_reading : Debugger → Reading → Debugger
state_after_reading d (Ok command) = state_after d command
state_after_reading d (Err fault) = d

-- a line's answer, and what the debugger keeps after it
unfoldable pub answer_to_line : Debugger → List ℕ → List ℕ
answer_to_line d line = if is_skipped line then [] else answer_to_reading d (reading_of line)

unfoldable pub state_after_line : Debugger → List ℕ → Debugger
state_after_line d line = if is_skipped line then d else state_after_reading d (reading_of line)

-- the same for lines one after another
abbrev pub answers_to_lines : Debugger → List (List ℕ) → List ℕ
answers_to_lines d [] = []
answers_to_lines d (line ∷ lines) = answer_to_line d line ++ answers_to_lines (state_after_line d line) lines

abbrev pub state_after_lines : Debugger → List (List ℕ) → Debugger
state_after_lines d [] = d
state_after_lines d (line ∷ lines) = state_after_lines (state_after_line d line) lines

-- the number of lines that are not skipped, faulty ones included
abbrev pub command_lines : List (List ℕ) → ℕ
command_lines [] = 0
command_lines (line ∷ lines) = (if is_skipped line then 0 else 1) + command_lines lines

-- the answers to a script, before which no breakpoint is set
abbrev pub answers_of : Recorded → List ℕ → List ℕ
answers_of r text = answers_to_lines (new_debugger r) (lines_of text)

abbrev pub lines_of_script : List ℕ → ℕ
lines_of_script text = command_lines (lines_of text)

-- what stands after want of memory for the reading of a line
abbrev pub StandsAfterReading : Reading → Debugger → Recorded → Type 0
StandsAfterReading (Ok command) d r = StandsPartly d command r
StandsAfterReading (Err fault) d r = r ≡ d.session

-- the answers of some first lines are written, and what stands is as after these and a part of the next
pub record IsStopped (old new : Option (List ℕ)) (d : Debugger) (r : Recorded) (lines : List (List ℕ)) : Type 0 where
  pub done : List (List ℕ)
  pub next : List ℕ
  pub left : List (List ℕ)
  pub split : lines ≡ done ++ next ∷ left
  pub written : Appends old new (answers_to_lines d done)
  pub stands : StandsAfterReading (reading_of next) (state_after_lines d done) r

-- the answers of some first lines are written, and of the next line's answer the first bytes, fewer than it has; what
-- stands is as after all of these lines
pub record IsCut (old new : Option (List ℕ)) (d : Debugger) (r : Recorded) (lines : List (List ℕ)) : Type 0 where
  pub done : List (List ℕ)
  pub next : List ℕ
  pub left : List (List ℕ)
  pub split : lines ≡ done ++ next ∷ left
  pub count : ℕ
  pub short : count < length (answer_to_line (state_after_lines d done) next)
  pub written : Appends old new (answers_to_lines d done ++ take count (answer_to_line (state_after_lines d done) next))
  pub stands : r ≡ (state_after_lines d (done ++ next ∷ [])).session

-- the answers to a script, and where its session is after it
abbrev pub AreAnswered : Option (List ℕ) → Option (List ℕ) → Recorded → List ℕ → Type 0
AreAnswered old new r text = Appends old new (answers_of r text)

abbrev pub session_after : Recorded → List ℕ → Recorded
session_after r text = (state_after_lines (new_debugger r) (lines_of text)).session

-- the same of a script that was carried out in part, where it is known
abbrev pub HasStopped : Option (List ℕ) → Option (List ℕ) → Option (List ℕ) → Recorded → Recorded → Type 0
HasStopped script old new r t = IfSome script (λ text. IsStopped old new (new_debugger r) t (lines_of text))

abbrev pub WasCut : Option (List ℕ) → Option (List ℕ) → Option (List ℕ) → Recorded → Recorded → Type 0
WasCut script old new r t = IfSome script (λ text. IsCut old new (new_debugger r) t (lines_of text))

-- what stands is as after some first lines
pub record AreCarriedOut (r t : Recorded) (text : List ℕ) : Type 0 where
  pub done : List (List ℕ)
  pub left : List (List ℕ)
  pub split : lines_of text ≡ done ++ left
  pub stands : t ≡ (state_after_lines (new_debugger r) done).session
