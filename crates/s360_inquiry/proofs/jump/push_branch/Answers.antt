use Rattle.std.proofs.Common.{codes}
use Rattle.std.proofs.lemmas.Bool.{ne_eqb}
use Rattle.s360_inquiry.specs.Jumps.{to_words}
use Rattle.s360_language.proofs.ShownLemmas.{pushed}
use Rattle.s360_inquiry.proofs.jump.push_branch.Goals as goal

pub returns : goal.returns
returns c =
    rw (ne_eqb c.args.at c.args.next c.if-at-next.false)
    (pushed c.args.text.now _ _ (codes " taken") (to_words c.args.at) c.in_ok-push_text.ensures c.in_ok-push_to.ensures)
