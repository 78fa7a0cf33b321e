-- Files that are written for gdb's user (own profile).
use Rattle.std.specs.Prelude.{◌≡◌, ⊤, ℕ, Option, Some, None, List, [], Result, Ok, Err}
use Rattle.std.specs.Io.KnownBytes.{Appends}
use Rattle.s360_remote.specs.Saving.{IsWrittenTold}
use Rattle.s360_remote.specs.declared.errand.Errand.{Errand}
use Rattle.s360_remote.specs.declared.errand.Errand.TheVariants.{Nothing, TellDropped, Write}
use Rattle.s360_saving.specs.declared.outcome.SaveFault.{SaveFault}
use Rattle.s360_saving.specs.declared.outcome.SaveFault.TheVariants.{WriteFailed}
use Rattle.s360_saving.specs.declared.file.FileToWrite.{FileToWrite}
use Rattle.s360_setup.specs.Partial.{IsBegun}
use Rattle.s360_text.specs.Writing.{IsPartWritten}
use Rattle.s360gdb.specs.Notes.{note_of_dropped}
use Rattle.s360gdb.specs.Opening.{Asked, IsOpened, IsUnopened}
use Rattle.s360gdb.specs.declared.host.Host.{Host}

-- how the writing of a file ended: it was opened by its name and got all bytes, or it got a part of them where a write failed, or
-- it did not open
abbrev pub IsSaved : {F : Type 0} → (F → Option (List ℕ)) → Option (List Asked) → Option (List Asked) → FileToWrite → Result ⊤ SaveFault → Type 0
IsSaved {F = F} contents old new file (Ok done) =
    IsOpened old new file.name file.over None × ((before : F) × (after : F) × Appends (contents before) (contents after) file.bytes)
IsSaved {F = F} contents old new file (Err WriteFailed) =
    IsOpened old new file.name file.over None × ((before : F) × (after : F) × IsPartWritten (contents before) (contents after) file.bytes)
IsSaved contents old new file (Err fault) = IsOpened old new file.name file.over (Some fault) × IsUnopened file.over fault

-- what is known of the program's host: what the notes have, and which files were to be opened
pub record Known : Type 0 where
  pub noted : Option (List ℕ)
  pub asked : Option (List Asked)

abbrev pub known : {F N : Type 0} → (F → Option (List Asked)) → (N → Option (List ℕ)) → Host F N → Known
known asked contents host = record { noted = contents host.notes; asked = asked host.files }

-- what was left to do is done, and answered as it ended
abbrev pub Runs : {F : Type 0} → (F → Option (List ℕ)) → Errand → Known → Known → List ℕ → Type 0
Runs contents Nothing k l answers = (l ≡ k) × (answers ≡ [])
Runs contents (TellDropped count) k l answers = IsBegun k.noted l.noted (note_of_dropped count) × (l.asked ≡ k.asked) × (answers ≡ [])
Runs contents (Write file) k l answers =
    (outcome : Result ⊤ SaveFault) × IsSaved contents k.asked l.asked file outcome × (l.noted ≡ k.noted) × IsWrittenTold file.amount outcome answers
