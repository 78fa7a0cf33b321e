use Rattle.std.proofs.Common.{◌≡◌, ◌+◌, ◌∙◌, ℕ, arith, ap, slice_index, slice_set}
use Rattle.s360_remote.proofs.RegisterLemmas.{words-one_more, words_so_far}
use Rattle.s360_remote.specs.Registers.{address_word_of, mask_word_of}
use Rattle.s360_remote.proofs.registers.words_of_machine.Goals as goal

pub loop-number-preserved : goal.loop-number-preserved
loop-number-preserved c =
    let registers = c.args.machine.now.whole.core.registers
    in let psw = c.args.machine.now.whole.core.psw
    in let n : ℕ = c.loop-number.number
    in let at : 2 + c.from.result ≡ 2 + n = omega (arith, c.from.ensures)
    in let word : c.register.result ≡ slice_index registers n = c.register.ensures ∙ ap (λ r. slice_index registers r) c.new.ensures
    in ap (λ ws. slice_set ws (2 + c.from.result) c.register.result) c.loop-number.invariant
    ∙ ap (λ w. slice_set (words_so_far (mask_word_of psw) (address_word_of psw) (λ r. slice_index registers r) n) (2 + c.from.result) w) word
    ∙ words-one_more (mask_word_of psw) (address_word_of psw) (λ r. slice_index registers r) n (2 + c.from.result) c.loop-number-test.true at
