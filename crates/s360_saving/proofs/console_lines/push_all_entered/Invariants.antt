use Rattle.std.proofs.Common.{◌≡◌, ◌++◌, take, flat_map}
use Rattle.s360_saving.specs.ConsoleLines.{entered_line}
use Rattle.s360_saving.proofs.console_lines.push_all_entered.Given as goal

abbrev pub invariant-loop-index : goal.invariant-loop-index
invariant-loop-index l = l.text ≡ l.initial.text ++ flat_map entered_line (take l.index l.media.media.entered)
