use Rattle.std.proofs.Common.{◌∙◌, List, sym, ap}
use Rattle.s360_machine.specs.Change.{Change}
use Rattle.s360_machine.specs.Packed.{bytes_of_changes, lists}
use Rattle.s360_machine.proofs.PackedLemmas.{bytes-of-rows}
use Rattle.s360_machine.proofs.packed.Packed.bytes.Goals as goal

pub returns : goal.returns
returns c =
    c.as_slice.ensures.value ∙ sym (bytes-of-rows c.self.inside.rows.items (lists c.self.inside.items.items c.self.inside.bytes.items c.self.inside.beside.items) c.self.invariant.0)
    ∙ ap (λ (xs : List Change). bytes_of_changes xs) c.self.view_is
