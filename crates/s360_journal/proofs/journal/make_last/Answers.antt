use Rattle.std.proofs.Common.{◌∙◌, ◌-◌, ap, sym, length, arith, slice_get}
use Rattle.std.proofs.lemmas.Option.{IfSome_then}
use Rattle.s360_model.specs.Storage.{Storage}
use Rattle.s360_journal.proofs.IndexLemmas.{index-swapped, ok-there}
use Rattle.s360_journal.proofs.SizeLemmas.{change-within}
use Rattle.s360_journal.proofs.journal.make_last.Goals as goal

pub index_last-requires-clause-index : goal.index_last-requires-clause-index
index_last-requires-clause-index c = rw c.len-count.ensures.len c.requires.index

pub index_last-requires-clause-size : goal.index_last-requires-clause-size
index_last-requires-clause-size c =
    rw c.len-count.ensures.len (IfSome_then (slice_get c.args.changes.now (length c.args.changes.now - 1)) c.requires.can
    (λ x can. change-within c.args.machine.now.whole x (omega (arith, c.size.ensures.size, c.size.ensures.below, ap (λ (s : Storage). length s.bytes) c.storage.ensures)) can))

pub returns-clause-index : goal.returns-clause-index
returns-clause-index c =
    index-swapped c.index_last.new.index c.args.machine.now.whole c.args.changes.now c.swap_last.new.self c.requires.some c.swap_last.ensures.changes
    (ok-there c.index_last.result _ (sym c.is_err.ensures.value ∙ c.if-is_err.false) c.index_last.ensures.ok)
