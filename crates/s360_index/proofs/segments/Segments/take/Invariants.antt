use Rattle.std.proofs.Common.{◌-◌, ◌≡◌, ◌≤◌, ◌⊎◌}
use Rattle.s360_index.specs.Segments.{AreSegments, IsCut, KeepsNumbers, KeepsNumbersFrom, Lost}
use Rattle.s360_index.proofs.segments.Segments.take.Given as goal

abbrev pub invariant-loop-at : goal.invariant-loop-at
invariant-loop-at l = record {
  whole : AreSegments l.self;
  forward : l.address ≤ l.at;
  lost : Lost l.number l.address l.at l.fn.self l.self;
  later : KeepsNumbersFrom l.at l.fn.self l.self;
  cut : ((l.at ≡ l.address) × KeepsNumbers l.fn.self l.self) ⊎ IsCut l.self l.at;
}

abbrev pub decreases-loop-at : goal.decreases-loop-at
decreases-loop-at l = l.end - l.at
