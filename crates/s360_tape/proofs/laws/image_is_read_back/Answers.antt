use Rattle.s360_tape.proofs.FileLemmas.{file_of_items_has_them}
use Rattle.s360_tape.proofs.MeaningLemmas.{file_has_items_once}
use Rattle.s360_tape.proofs.laws.image_is_read_back.Goals as goal

pub returns-clause-items : goal.returns-clause-items
returns-clause-items c = file_of_items_has_them

pub returns-clause-once : goal.returns-clause-once
returns-clause-once c = file_has_items_once
