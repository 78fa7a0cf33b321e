use Rattle.std.proofs.Common.{◌≡◌, drop}
use Rattle.s360_inquiry.specs.Stores.{span_in}
use Rattle.s360_inquiry.proofs.storing.span_in.Given as goal

abbrev pub invariant-loop-index : goal.invariant-loop-index
invariant-loop-index l = l.span ≡ span_in l.extent (drop l.index l.places)
