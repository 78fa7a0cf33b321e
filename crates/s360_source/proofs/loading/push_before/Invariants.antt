use Rattle.std.proofs.Common.{◌≡◌, ◌++◌, take}
use Rattle.s360_source.specs.Channels.{followed_back}
use Rattle.s360_source.proofs.loading.push_before.Given as goal

abbrev pub invariant-loop-place : goal.invariant-loop-place
invariant-loop-place l = l.found.items ≡ l.initial.found.items ++ followed_back l.word (take l.place-index l.places)
