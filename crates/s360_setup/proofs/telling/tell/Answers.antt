use Rattle.std.proofs.Common.{codes}
use Rattle.s360_setup.proofs.Texts.{IsBegun-name, IsBegun-named, IsBegun-ended}
use Rattle.s360_setup.proofs.telling.tell.Goals as goal

pub returns-in_err-write_texts-clause-stopped : goal.returns-in_err-write_texts-clause-stopped
returns-in_err-write_texts-clause-stopped g c =
    rw (← c.name.ensures) (IsBegun-name _ _ c.name.result.now (codes ": ") _ c.write_texts.ensures.stopped)

pub returns-in_err-write_texts-2-clause-stopped : goal.returns-in_err-write_texts-2-clause-stopped
returns-in_err-write_texts-2-clause-stopped g c =
    rw (← c.name.ensures) (IsBegun-named _ _ _ c.name.result.now (codes ": ") _ (codes "\n") c.in_ok-write_texts.ensures.ok c.write_texts-2.ensures.stopped)

pub returns-clause-stopped : goal.returns-clause-stopped
returns-clause-stopped g c =
    rw (← c.name.ensures) (IsBegun-ended _ _ _ _ c.name.result.now (codes ": ") _ (codes "\n") c.in_ok-write_texts.ensures.ok c.in_ok-write_texts-2.ensures.ok c.write_texts-3.ensures.stopped)
