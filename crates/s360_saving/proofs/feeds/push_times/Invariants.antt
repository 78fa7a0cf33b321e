use Rattle.std.proofs.Common.{◌≡◌, ◌++◌, replicate}
use Rattle.s360_saving.proofs.feeds.push_times.Given as goal

abbrev pub invariant-loop-time : goal.invariant-loop-time
invariant-loop-time l = l.text ≡ l.initial.text ++ replicate l._time l.byte
