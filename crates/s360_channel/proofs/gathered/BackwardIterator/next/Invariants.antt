use Rattle.std.proofs.Common.{◌≡◌}
use Rattle.std.specs.Option.{option_copied, option_map_or}
use Rattle.s360_channel.specs.Gathered.{left_of, word_count}
use Rattle.s360_channel.proofs.gathered.BackwardIterator.next.Given as goal

abbrev pub invariant-loop-last : goal.invariant-loop-last
invariant-loop-last l = left_of l.self ≡ left_of l.initial.self

abbrev pub decreases-loop-last : goal.decreases-loop-last
decreases-loop-last l = option_map_or word_count (option_copied l.self.before) 0
