use Rattle.std.proofs.Common.{◌∙◌, sym}
use Rattle.s360_store.proofs.ByteCellLemmas.{after_put_bytes-new}
use Rattle.s360_store.proofs.ItemLemmas.{IsFresh-miss}
use Rattle.s360_store.proofs.cells.Cells.put_bytes.Goals as goal

pub returns-clause-ok : goal.returns-clause-ok
returns-clause-ok c =
    let miss = rw c.as_slice.ensures.value at (c.all_miss.ensures c.if-not-all_miss.false)
    in c.in_ok-push_bytes.ensures.ok ∙ sym (after_put_bytes-new c.args.self.now c.args.address c.args.bytes.now
    (λ x l m. rw c.self.view_is at (IsFresh-miss c.self.inside.items.items c.self.inside.bytes.items c.args.address _ x miss l m)))
