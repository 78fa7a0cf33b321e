use Rattle.s360_packet.proofs.RegisterLemmas.{registers_each}
use Rattle.s360_packet.proofs.laws.all_registers_are_each.Goals as goal

pub returns : goal.returns
returns c = registers_each
