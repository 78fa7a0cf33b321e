use Rattle.std.proofs.Common.{◌≡◌, ◌++◌, take, flat_map}
use Rattle.s360_trace.specs.SourcesTold.{blank_and_name}
use Rattle.s360_trace.proofs.sources_told.push_names.Given as goal

abbrev pub invariant-loop-run : goal.invariant-loop-run
invariant-loop-run l = l.text ≡ l.initial.text ++ flat_map blank_and_name (take l.run-index l.runs)
