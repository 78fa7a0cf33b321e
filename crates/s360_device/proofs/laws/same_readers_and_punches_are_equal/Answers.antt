use Rattle.s360_device.proofs.DifferenceLemmas.{same_punch-Decides, same_reader-Decides}
use Rattle.s360_device.proofs.laws.same_readers_and_punches_are_equal.Goals as goal

pub returns-clause-reader : goal.returns-clause-reader
returns-clause-reader c = same_reader-Decides

pub returns-clause-punch : goal.returns-clause-punch
returns-clause-punch c = same_punch-Decides
