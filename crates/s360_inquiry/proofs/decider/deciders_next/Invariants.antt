use Rattle.std.proofs.Common.{◌≡◌, map, take}
use Rattle.s360_inquiry.specs.Causes.{decider_item}
use Rattle.s360_inquiry.proofs.decider.deciders_next.Given as goal

abbrev pub invariant-loop-cause : goal.invariant-loop-cause
invariant-loop-cause l = l.items.items ≡ map (decider_item l.recording) (take l.cause-index l.cause-items)
