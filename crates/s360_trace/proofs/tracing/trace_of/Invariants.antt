use Rattle.std.proofs.Common.{◌≡◌, ◌-◌, ◌++◌}
use Rattle.s360_journal.specs.Recorded.{with_standing}
use Rattle.s360_trace.specs.Trace.{header, lines_behind}
use Rattle.s360_trace.proofs.tracing.trace_of.Given as goal

abbrev pub invariant-loop-before : goal.invariant-loop-before
invariant-loop-before l = record {
  text : l.text ≡ header ++ lines_behind l.initial.recording l.first (l.before - l.first);
  kept : l.recording ≡ with_standing l.initial.recording l.before;
}
