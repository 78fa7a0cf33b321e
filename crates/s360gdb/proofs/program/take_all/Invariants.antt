use Rattle.std.proofs.Common.{◌≡◌, ◌++◌, ℕ, List, take}
use Rattle.s360gdb.specs.Conversation.{IsConversation, talking}
use Rattle.s360gdb.specs.Saving.{known}
use Rattle.s360gdb.proofs.program.take_all.Given as goal

abbrev pub invariant-loop-byte : goal.invariant-loop-byte
invariant-loop-byte g l =
    (answers : List ℕ)
    × IsConversation g.F.File.Write.contents (take l.byte-index l.bytes)
    (talking l.initial.connection l.initial.target (known g.F.Opening.asked g.N.Write.contents l.initial.host))
    (talking l.connection l.target (known g.F.Opening.asked g.N.Write.contents l.host)) answers
    × (l.replies ≡ l.initial.replies ++ answers)
