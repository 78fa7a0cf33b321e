use Rattle.std.proofs.Common.{◌∙◌, sym, ap, length}
use Rattle.s360_machine.proofs.PackedLemmas.{length-changes}
use Rattle.s360_machine.proofs.packed.Packed.len.Goals as goal

pub returns-clause-len : goal.returns-clause-len
returns-clause-len c = rw (← c.self.view_is) (ap length c.as_slice.ensures.value ∙ sym (length-changes c.self.inside.rows.items _))
