use Rattle.std.proofs.Common.{sym, arith}
use Rattle.s360_store.proofs.ItemLemmas.{has-items}
use Rattle.s360_store.proofs.cells.Cells.has.Goals as goal

pub returns : goal.returns
returns c = rw (← c.self.view_is, c.one_has.ensures, c.as_slice.ensures.value) (sym (has-items c.self.inside.items.items c.args.place c.self.inside.bytes.items (omega (arith, c.self.invariant.all))))
