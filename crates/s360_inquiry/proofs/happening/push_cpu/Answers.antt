use Rattle.std.proofs.Common.{◌≡◌, ◌++◌, ◌∙◌, ap, codes}
use Rattle.s360_machine.specs.Machine.{seen}
use Rattle.s360_model.specs.Psw.{instruction_address_of}
use Rattle.s360_model.specs.Text.{hex_text}
use Rattle.s360_inquiry.specs.Happenings.{turn_words}
use Rattle.s360_inquiry.proofs.InquiryLemmas.{pushed-thrice}
use Rattle.s360_inquiry.proofs.happening.push_cpu.Goals as goal

pub returns : goal.returns
returns c =
    let at : c.from.result ≡ instruction_address_of c.args.machine.now.whole.core.psw
    = c.from.ensures ∙ c.instruction_address.ensures.value ∙ ap (λ p. instruction_address_of p) c.psw.ensures
    in pushed-thrice c.args.text.now _ _ _ _ _ _ c.in_ok-push_text.ensures c.in_ok-push_hex.ensures c.in_ok-push_turn.ensures
    ∙ ap (λ n. c.args.text.now ++ ((codes "cpu at " ++ hex_text 6 n) ++ turn_words (seen c.args.machine.now.whole))) at
