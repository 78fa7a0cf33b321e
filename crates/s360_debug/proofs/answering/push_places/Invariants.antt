use Rattle.std.proofs.Common.{◌≡◌, ◌++◌, take}
use Rattle.s360_debug.specs.Answers.{place_names}
use Rattle.s360_debug.proofs.answering.push_places.Given as goal

abbrev pub invariant-loop-i : goal.invariant-loop-i
invariant-loop-i l = l.text ≡ l.initial.text ++ place_names (take l.i l.places)
