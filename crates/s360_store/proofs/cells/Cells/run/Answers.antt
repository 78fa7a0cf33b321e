use Rattle.std.proofs.Common.{◌∙◌, ap, sym, length}
use Rattle.s360_store.proofs.ItemLemmas.{only-run}
use Rattle.s360_store.proofs.cells.Cells.run.Goals as goal

pub returns-in-Run : goal.returns-in-Run
returns-in-Run c =
    rw (← c.self.view_is, c.as_slice.ensures.value) (only-run c.self.inside.items.items c.self.inside.bytes.items c.in-Run.address c.in-Run.count _ c.self.invariant.whole c.self.invariant.all
    (sym (ap length c.as_slice-items.ensures.value) ∙ c.if-items-ne1.false) (rw c.as_slice-items.ensures.value at c.in-Run.is))
