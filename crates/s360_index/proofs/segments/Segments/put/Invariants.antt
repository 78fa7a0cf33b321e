use Rattle.std.proofs.Common.{◌-◌, ◌≤◌}
use Rattle.s360_index.specs.Segments.{AreSegments, Gained, Grown, IsCut}
use Rattle.s360_index.proofs.segments.Segments.put.Given as goal

abbrev pub invariant-loop-at : goal.invariant-loop-at
invariant-loop-at l = record {
  whole : AreSegments l.self;
  grown : Grown l.self l.end;
  cut : IsCut l.self l.at;
  cut_at_end : IsCut l.self l.end;
  forward : l.address ≤ l.at;
  inside : l.at ≤ l.end;
  gained : Gained l.number l.address l.at l.fn.self l.self;
}

abbrev pub decreases-loop-at : goal.decreases-loop-at
decreases-loop-at l = l.end - l.at
