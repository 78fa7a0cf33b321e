use Rattle.std.proofs.Common.{◌≡◌, ◌++◌, drop}
use Rattle.s360_saving.specs.Pages.{pages_file, pages_from}
use Rattle.s360_saving.proofs.pages.pages_of.Given as goal

abbrev pub invariant-loop-index : goal.invariant-loop-index
invariant-loop-index l = l.text ++ pages_from l.before (drop l.index l.media.media.records) ≡ pages_file l.media.media.records
