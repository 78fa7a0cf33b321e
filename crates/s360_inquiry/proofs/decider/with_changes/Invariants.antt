use Rattle.std.proofs.Common.{◌≡◌, map, take}
use Rattle.s360_inquiry.specs.Causes.{decider_origin}
use Rattle.s360_inquiry.specs.Origins.{sourced}
use Rattle.s360_inquiry.proofs.decider.with_changes.Given as goal

abbrev pub invariant-loop-place : goal.invariant-loop-place
invariant-loop-place l = l.deciders.items ≡ map (sourced (decider_origin l.recording)) (take l.place-index l.places)
