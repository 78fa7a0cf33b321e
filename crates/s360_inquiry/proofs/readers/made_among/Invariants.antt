use Rattle.std.proofs.Common.{◌≡◌, drop}
use Rattle.s360_inquiry.specs.Readers.{made_among}
use Rattle.s360_inquiry.proofs.readers.made_among.Given as goal

abbrev pub invariant-loop-index : goal.invariant-loop-index
invariant-loop-index l = l.made.keys ≡ made_among l.footprint.machine l.footprint.event l.extent (drop l.index l.places)
