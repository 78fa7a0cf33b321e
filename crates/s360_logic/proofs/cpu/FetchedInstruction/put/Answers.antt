use Rattle.s360_logic.proofs.InstructionLemmas.{PutsInstruction-fetched}
use Rattle.s360_logic.proofs.cpu.FetchedInstruction.put.Goals as goal

pub returns : goal.returns
returns g c =
    rw (c.next_address.ensures, c.instruction_length.ensures, ← c.self.view_is)
    (PutsInstruction-fetched _ _ _ _ c.self.invariant.2 c.in_ok-ended.ensures)
