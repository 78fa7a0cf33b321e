use Rattle.std.proofs.Common.{◌≡◌, ◌++◌, take, flat_map}
use Rattle.s360_inquiry.proofs.fitting.push_full.Given as goal

abbrev pub invariant-loop-item : goal.invariant-loop-item
invariant-loop-item l = l.text ≡ (l.fn.text ++ l.head) ++ flat_map (λ item. item) (take l.item-index l.items)
