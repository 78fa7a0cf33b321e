use Rattle.std.proofs.Common.{take, map}
use Rattle.std.specs.List.{concat}
use Rattle.std.specs.Io.KnownBytes.{Appends}
use Rattle.s360_setup.proofs.telling.write_texts.Given as goal

abbrev pub invariant-loop-text : goal.invariant-loop-text
invariant-loop-text g l =
    Appends (g.W.Write.contents l.initial.writer) (g.W.Write.contents l.writer) (concat (take l.text-index (map (λ text. text.now) l.texts)))
