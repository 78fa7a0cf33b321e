use Rattle.std.proofs.Common.{◌-◌, ℕ}
use Rattle.s360_journal.specs.Recorded.{Recorded}
use Rattle.s360_inquiry.specs.Gatherings.{IsGathering, IsOfEvent}
use Rattle.s360_inquiry.proofs.gathering.Gathering.take_stored.Given as goal

abbrev pub invariant-loop-request : goal.invariant-loop-request
invariant-loop-request l =
    (r : Recorded) (n : ℕ) → IsOfEvent r n l.stored l.fn.origin → IsGathering r n l.fn.self → IsGathering r (n - 1) l.self
