use Rattle.std.proofs.Common.{◌∙◌, refl, ap, arith}
use Rattle.s360_model.specs.Core.{core_with_psw}
use Rattle.s360_fixed.specs.Storing.{next_psw, with_registers_stored}
use Rattle.s360_fixed.proofs.PutLemmas.{with_registers_stored-psw}
use Rattle.s360_fixed.proofs.register_words.put_stored.Goals as goal

pub returns : goal.returns
returns g c = record {
  ends = refl;
  makes = c.in_ok-put_words.ensures.made
      ∙ ap (λ n. with_registers_stored c.args.view.now.core.registers c.args.words.now.r1 c.args.words.now.address c.args.words.now.count n) (c.in_ok-put_next_psw.ensures.made ∙ ap (λ n. core_with_psw (next_psw c.args.view.now) n) c.requires.none.same)
      ∙ with_registers_stored-psw c.args.view.now.core.registers c.args.words.now.r1 c.args.words.now.address c.args.words.now.count (next_psw c.args.view.now) c.args.view.now.core;
  allowed = c.in_ok-put_words.ensures.may;
  few = omega (arith, c.in_ok-put_words.ensures.few, c.in_ok-put_next_psw.ensures.few, c.requires.none.none, c.requires.count);
  follow = tt;
}
