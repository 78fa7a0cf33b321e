use Rattle.std.proofs.Common.{◌≡◌, ◌-◌, sym, drop, take, length, arith, take_all, length-drop}
use Rattle.s360_language.proofs.WordLemmas.{words_of-none, words_of-word, words_of-last}
use Rattle.s360_language.proofs.words.split_word.Goals as goal

pub returns-in_err-start-clause-word : goal.returns-in_err-start-clause-word
returns-in_err-start-clause-word c = rw c.from_residual.ensures (words_of-none c.args.line.now (sym c.in_err-start.ensures))

pub returns-in-Some-clause-word : goal.returns-in-Some-clause-word
returns-in-Some-clause-word c =
    let whole : take (length c.args.line.now - c.in_ok-start.start) (drop c.in_ok-start.start c.args.line.now) ≡ drop c.in_ok-start.start c.args.line.now
    = take_all _ _ (omega (arith, length-drop c.in_ok-start.start c.args.line.now))
    in rw (c.split_at.ensures.front, c.split_at.ensures.back, whole)
    (words_of-word c.args.line.now c.in_ok-start.start c.in-Some.end (sym c.in_ok-start.ensures) (rw whole at (sym c.in-Some.ensures)))

pub returns-in-None-clause-word : goal.returns-in-None-clause-word
returns-in-None-clause-word c =
    let whole : take (length c.args.line.now - c.in_ok-start.start) (drop c.in_ok-start.start c.args.line.now) ≡ drop c.in_ok-start.start c.args.line.now
    = take_all _ _ (omega (arith, length-drop c.in_ok-start.start c.args.line.now))
    in rw whole (words_of-last c.args.line.now c.in_ok-start.start (sym c.in_ok-start.ensures) (rw whole at (sym c.in-None.ensures)))
