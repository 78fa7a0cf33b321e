use Rattle.std.proofs.Common.{◌≡◌}
use Rattle.s360_journal.specs.Recorded.{with_standing}
use Rattle.s360_inquiry.specs.Causes.{IsChain}
use Rattle.s360_inquiry.proofs.why.Chain.text_from.Given as goal

abbrev pub invariant-loop-told : goal.invariant-loop-told
invariant-loop-told l = record {
  told : IsChain (with_standing l.initial.recording 0) l.self.detail l.fn.first l.known.items l.told l.telling;
  kept : l.recording ≡ with_standing l.initial.recording l.recording.standing;
}
