use Rattle.std.proofs.Common.{◌≡◌, ◌+◌, ◌-◌, ◌∙◌, sym, ap, drop, take, length, arith, take_all, length-drop, option_copied}
use Rattle.s360_debug.specs.LinesLeft.{lines_left}
use Rattle.s360_debug.proofs.LineLemmas.{lines_of-line, lines_of-last}
use Rattle.s360_debug.proofs.lines.Lines.next_line.Goals as goal

pub returns-in-Some : goal.returns-in-Some
returns-in-Some c =
    let whole : take (length c.in_ok-text.text.now - (c.in-Some.end + 1)) (drop (c.in-Some.end + 1) c.in_ok-text.text.now) ≡ drop (c.in-Some.end + 1) c.in_ok-text.text.now
    = take_all _ _ (omega (arith, length-drop (c.in-Some.end + 1) c.in_ok-text.text.now))
    in rw (whole, c.strip_return.ensures)
    (sym c.self.view_is ∙ ap (λ v. lines_left (option_copied v)) c.in_ok-text.was ∙ lines_of-line _ _ (sym c.in-Some.ensures))

pub returns-in-None : goal.returns-in-None
returns-in-None c =
    sym c.self.view_is ∙ ap (λ v. lines_left (option_copied v)) c.in_ok-text.was ∙ lines_of-last _ (sym c.in-None.ensures)
