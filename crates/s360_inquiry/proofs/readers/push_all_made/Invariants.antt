use Rattle.std.proofs.Common.{◌≡◌, ◌++◌, take, flat_map}
use Rattle.s360_machine.specs.Machine.{seen}
use Rattle.s360_inquiry.specs.Readers.{made_line}
use Rattle.s360_inquiry.proofs.readers.push_all_made.Given as goal

abbrev pub invariant-loop-extent : goal.invariant-loop-extent
invariant-loop-extent l = l.text ≡ l.initial.text ++ flat_map (made_line (seen l.machine.whole)) (take l.extent-index l.made)
