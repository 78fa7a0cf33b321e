use Rattle.std.proofs.Common.{◌≡◌, map, take}
use Rattle.s360_journal.specs.Recorded.{with_standing}
use Rattle.s360_inquiry.specs.Changes.{just_before}
use Rattle.s360_inquiry.specs.Origins.{origin_in, sourced}
use Rattle.s360_inquiry.proofs.why.Chain.causes_of.Given as goal

abbrev pub invariant-loop-place : goal.invariant-loop-place
invariant-loop-place l = record {
  sources : l.sources.items ≡ map (sourced (origin_in (just_before l.initial.recording l.making.number))) (take l.place-index l.place-items);
  kept : l.recording ≡ with_standing l.initial.recording l.recording.standing;
}
