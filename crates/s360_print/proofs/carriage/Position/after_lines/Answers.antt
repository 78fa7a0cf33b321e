use Rattle.std.proofs.Common.{sym, arith}
use Rattle.s360_print.proofs.CarriageLemmas.{after_lines-here, after_lines-over}
use Rattle.s360_print.proofs.carriage.Position.after_lines.Goals as goal

pub returns-then-line-le-LINES : goal.returns-then-line-le-LINES
returns-then-line-le-LINES c = rw (← c.self.view_is) (sym (after_lines-here (record { page = c.self.inside.page; line = c.self.inside.line }) c.args.lines c.if-line-le-LINES.true))

pub returns-else-line-le-LINES : goal.returns-else-line-le-LINES
returns-else-line-le-LINES c = rw (← c.self.view_is, c.page_after.ensures.next) (sym (after_lines-over (record { page = c.self.inside.page; line = c.self.inside.line }) c.args.lines c.self.invariant.1.1 c.if-line-le-LINES.false (omega arith)))
