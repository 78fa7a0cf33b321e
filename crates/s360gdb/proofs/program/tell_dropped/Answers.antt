use Rattle.s360gdb.proofs.Notes.{note-some}
use Rattle.s360gdb.proofs.program.tell_dropped.Goals as goal

pub returns-clause-ok : goal.returns-clause-ok
returns-clause-ok g c = rw (note-some c.args.count c.if-count-eq0.false, ← c.format.ensures.text) c.tell.ensures.ok
