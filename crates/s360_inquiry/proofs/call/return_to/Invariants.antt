use Rattle.std.proofs.Common.{◌≡◌, reverse, take}
use Rattle.s360_inquiry.specs.Calls.{outside_of}
use Rattle.s360_inquiry.proofs.call.return_to.Given as goal

abbrev pub invariant-loop-index : goal.invariant-loop-index
invariant-loop-index l = record {
  outside : outside_of l.at (reverse l.initial.calls.items) ≡ outside_of l.at (reverse (take l.index l.initial.calls.items));
  kept : l.calls ≡ l.initial.calls;
}
