use Rattle.std.proofs.Common.{◌≡◌, ◌-◌, take, flat_map}
use Rattle.s360_inquiry.specs.Causes.{node_of, with_nodes}
use Rattle.s360_inquiry.proofs.node.push_nodes.Given as goal

abbrev pub invariant-loop-cause : goal.invariant-loop-cause
invariant-loop-cause l = l.known.items ≡ with_nodes l.initial.known.items (flat_map (node_of (l.depth - 1)) (take l.cause-index l.causes))
