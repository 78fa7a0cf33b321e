use Rattle.s360_machine.specs.ChangeSpans.{spans_apart}
use Rattle.s360_journal.proofs.IndexLemmas.{Indexing}
use Rattle.s360_journal.proofs.indexing.put_last.Given as goal

abbrev pub invariant-loop-span : goal.invariant-loop-span
invariant-loop-span l = Indexing l.number l.initial.index l.index (spans_apart l.initial.span-iterator) (spans_apart l.span-iterator)
