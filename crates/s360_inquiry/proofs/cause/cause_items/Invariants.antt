use Rattle.std.proofs.Common.{◌≡◌, take}
use Rattle.s360_inquiry.specs.Origins.{cause_items}
use Rattle.s360_inquiry.proofs.cause.cause_items.Given as goal

abbrev pub invariant-loop-cause : goal.invariant-loop-cause
invariant-loop-cause l = l.items.items ≡ cause_items (take l.cause-index l.causes)
