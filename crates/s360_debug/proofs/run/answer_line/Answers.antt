use Rattle.std.proofs.Common.{rules}
use Rattle.s360_language.specs.Reading.{reading_of}
use Rattle.s360_debug.proofs.Readings.{ok_reading, IsFaultAnswered, answer_to_fault}
use Rattle.s360_debug.specs.Debugger.{Debugger}
use Rattle.s360_debug.proofs.run.answer_line.Goals as goal

pub returns-in-Ok-clause-memory : goal.returns-in-Ok-clause-memory
returns-in-Ok-clause-memory c = rw (ok_reading (reading_of c.args.line.now) c.in-Ok.command c.in-Ok.ensures) c.answer.ensures.memory

pub returns-in-Err : goal.returns-in-Err
returns-in-Err c =
    let d : Debugger = record { session = c.args.session.now; breaks = c.args.breaks.now }
    in let all : IsFaultAnswered (reading_of c.args.line.now) d c.text_of_fault.result
    = answer_to_fault (reading_of c.args.line.now) c.in-Err.fault d c.text_of_fault.result c.in-Err.ensures c.text_of_fault.ensures
    in record { text = all.text; state = all.state; memory = all.memory; memory_breaks = search rules }
