use Rattle.s360_journal.proofs.SpanLemmas.{SoughtIn}
use Rattle.s360_journal.proofs.places.place_at.Given as goal

abbrev pub invariant-loop-span : goal.invariant-loop-span
invariant-loop-span l = SoughtIn l.spans l.i l.span-index l.left
