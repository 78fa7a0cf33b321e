use Rattle.std.proofs.Common.{◌+◌, ◌∙◌, ap, rules}
use Rattle.s360_inquiry.specs.declared.telling.Telling.{Telling}
use Rattle.s360_inquiry.proofs.TellingLemmas.{counted-one, told-full, told-one}
use Rattle.s360_inquiry.proofs.telling.Telling.push.Goals.{then-self-lt-MOST_LINES+in_ok-push_bytes, else-self-lt-MOST_LINES}
use Rattle.s360_inquiry.proofs.telling.Telling.push.Goals as goal

pub returns-then-is_full : goal.returns-then-is_full
returns-then-is_full c = λ lines told. told-full lines _ c.args.self.now (c.is_full.ensures.0 (search rules)) told

pub returns : goal.returns
returns c = elim c.if-self-lt-MOST_LINES.branch [
  | then-self-lt-MOST_LINES+in_ok-push_bytes w ↦
      λ lines told. told-one lines _ c.args.self.now _ w.if-self-lt-MOST_LINES.true (ap (λ (t : Telling). t.lines + 1) w.self-is)
      (ap (λ (t : Telling). t.text) w.self-is ∙ w.in_ok-push_bytes.ensures) told
  | else-self-lt-MOST_LINES w ↦
      λ lines told. counted-one lines _ c.args.self.now _ w.if-self-lt-MOST_LINES.false (search rules)
      (ap (λ (t : Telling). t.lines + 1) w.self-is) (ap (λ (t : Telling). t.text) w.self-is) told
]
