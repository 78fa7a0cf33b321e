use Rattle.std.proofs.Common.{◌≡◌, drop, reverse}
use Rattle.s360_inquiry.specs.Extents.{runs_of}
use Rattle.s360_inquiry.proofs.extent.runs_of.Given as goal

abbrev pub invariant-loop-index : goal.invariant-loop-index
invariant-loop-index l = reverse l.runs.items ≡ runs_of (drop l.index l.places)
