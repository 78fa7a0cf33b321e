use Rattle.std.proofs.Common.{◌≡◌, ◌++◌}
use Rattle.s360_store.specs.Spans.{byte_places}
use Rattle.s360_inquiry.proofs.extent.push_bytes.Given as goal

abbrev pub invariant-loop-index : goal.invariant-loop-index
invariant-loop-index l = l.places.items ≡ l.initial.places.items ++ byte_places l.first l.index
