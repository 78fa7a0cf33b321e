use Rattle.std.proofs.Common.{◌≤◌, ◌++◌, length}
use Rattle.s360_remote.specs.Connecting.{new_connection}
use Rattle.s360gdb.specs.Conversation.{IsServed, talking}
use Rattle.s360gdb.specs.Saving.{known}
use Rattle.s360gdb.proofs.program.serve.Given as goal

abbrev pub invariant-loop-read : goal.invariant-loop-read
invariant-loop-read g l =
    (s : IsServed g.F.File.Write.contents (g.R.Read.remaining l.initial.reader) (g.R.Read.remaining l.reader)
    (talking new_connection l.initial.target (known g.F.Opening.asked g.N.Write.contents l.initial.host))
    (talking l.connection l.target (known g.F.Opening.asked g.N.Write.contents l.host))
    (g.W.Write.contents l.initial.writer) (g.W.Write.contents l.writer))
    × (l._read ≤ length (s.before ++ s.last))
