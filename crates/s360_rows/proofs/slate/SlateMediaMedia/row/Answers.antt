use Rattle.std.proofs.Common.{refl}
use Rattle.s360_rows.specs.Slate.{after_reading, after_writing, line}
use Rattle.s360_rows.proofs.slate.SlateMediaMedia.row.Goals as goal

pub returns-in-1 : goal.returns-in-1
returns-in-1 c = (after_writing c.args.self.now.media, rw c.in-1.is refl)

pub returns-in-2 : goal.returns-in-2
returns-in-2 c = (line, (after_reading c.args.self.now.media, (rw (c.in-2.is, ← c.has_line.ensures, c.if-has_line.true) refl, c.reading.ensures)))
