use Rattle.std.proofs.Common.{◌≡◌, ◌++◌}
use Rattle.std.specs.List.{flat_map, range_with_len}
use Rattle.s360_language.specs.ShownBytes.{numbered_row}
use Rattle.s360_language.proofs.show_bytes.push_rows.Given as goal

abbrev pub invariant-loop-number : goal.invariant-loop-number
invariant-loop-number l = l.text ≡ l.initial.text ++ flat_map (numbered_row l.row l.at l.size l.bytes) (range_with_len 0 l.number)
