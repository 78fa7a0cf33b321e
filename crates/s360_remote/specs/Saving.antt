-- Lines of gdb's user that save. The file is written elsewhere, and the line is answered then (own profile).
use Rattle.std.specs.Prelude.{◌≡◌, ◌⊎◌, ⊤, ℕ, List, [], Result, Ok, Err}
use Rattle.s360_debug.specs.Answers.{fault_text}
use Rattle.s360_language.specs.declared.command.LineFault.{LineFault}
use Rattle.s360_journal.specs.Recorded.{Recorded, with_standing}
use Rattle.s360_packet.specs.Framing.{framed}
use Rattle.s360_saving.specs.Files.{file_for}
use Rattle.s360_saving.specs.Outcomes.{outcome_text}
use Rattle.s360_saving.specs.Reading.{Asked}
use Rattle.s360_saving.specs.declared.file.Amount.{Amount}
use Rattle.s360_saving.specs.declared.outcome.SaveFault.{SaveFault}
use Rattle.s360_remote.specs.Driven.{Driven}
use Rattle.s360_remote.specs.ErrorNumbers.{error_of}
use Rattle.s360_remote.specs.Replies.{line_text, packet_of}
use Rattle.s360_remote.specs.declared.error_number.ErrorNumber.TheVariants.{Memory}
use Rattle.s360_remote.specs.declared.serving.Then.{Then}
use Rattle.s360_remote.specs.declared.serving.Then.TheVariants as then

-- the file is to be written, and nothing is answered yet; or it is told what is wrong with the line
abbrev pub IsSavingServed : Result Asked LineFault → Recorded → Then → List ℕ → Type 0
IsSavingServed (Ok asked) r next packets = (next ≡ then.Save (file_for r asked)) × (packets ≡ [])
IsSavingServed (Err fault) r next packets = (next ≡ then.GoOn) × (packets ≡ framed (line_text (fault_text fault)))

-- after want of memory the recording stands at some change, and all else is as it was
abbrev pub IsSavingBegun : Driven → Driven → Type 0
IsSavingBegun d t = t ≡ record d { recorded = with_standing d.recorded t.recorded.standing }

-- how the writing of a file ended is told; or that memory lacks for that
abbrev pub IsWrittenTold : Amount → Result ⊤ SaveFault → List ℕ → Type 0
IsWrittenTold amount outcome packets =
    (packets ≡ framed (line_text (outcome_text amount outcome))) ⊎ (packets ≡ packet_of (error_of Memory))
