use Rattle.s360_tape.proofs.MeaningLemmas.{no_tape_file_has_fault, file_has_fault_once}
use Rattle.s360_tape.proofs.laws.fault_is_the_first.Goals as goal

pub returns-clause-none : goal.returns-clause-none
returns-clause-none c = no_tape_file_has_fault

pub returns-clause-once : goal.returns-clause-once
returns-clause-once c = file_has_fault_once
