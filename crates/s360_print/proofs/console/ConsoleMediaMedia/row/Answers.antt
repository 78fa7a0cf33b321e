use Rattle.std.proofs.Common.{rules, tests}
use Rattle.s360_print.specs.Console.{typed_by}
use Rattle.s360_print.proofs.console.ConsoleMediaMedia.row.Goals as goal

pub returns-in-Some-Write : goal.returns-in-Some-Write
returns-in-Some-Write c = (typed_by c.args.self.now.media c.in-Some-Write.field-0, search (tests, rules))
