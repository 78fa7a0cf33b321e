use Rattle.s360_word.proofs.PackedLemmas.{packed-restores}
use Rattle.s360_word.proofs.laws.packed_restores.Goals as goal

pub returns : goal.returns
returns c = packed-restores
