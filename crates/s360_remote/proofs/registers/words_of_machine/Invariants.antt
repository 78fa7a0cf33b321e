use Rattle.std.proofs.Common.{◌≡◌, slice_index}
use Rattle.s360_remote.proofs.RegisterLemmas.{words_so_far}
use Rattle.s360_remote.specs.Registers.{address_word_of, mask_word_of}
use Rattle.s360_remote.proofs.registers.words_of_machine.Given as goal

abbrev pub invariant-loop-number : goal.invariant-loop-number
invariant-loop-number l = l.words ≡ words_so_far (mask_word_of l.machine.whole.core.psw) (address_word_of l.machine.whole.core.psw) (λ r. slice_index l.machine.whole.core.registers r) l.number
