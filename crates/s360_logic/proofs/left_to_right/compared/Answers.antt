use Rattle.std.proofs.Common.{◌≡◌, ◌≢◌, ◌<◌, ◌+◌, ◌-◌, ◌∙◌, ap, get_or, sym, suc, arith}
use Rattle.s360_logic.specs.Bytes.{byte_at}
use Rattle.s360_logic.specs.LeftToRight.{comparison_code}
use Rattle.s360_logic.proofs.FieldLemmas.{comparison_code-first, comparison_code-other, operand_bytes-at}
use Rattle.s360_logic.proofs.left_to_right.compared.Goals as goal
use Rattle.s360_logic.proofs.left_to_right.compared.Goals.{After-first_other-at}

-- what is left to compare from the first bytes that differ
rest : (c : After-first_other-at) → comparison_code c.args.storage.now (c.args.first + c.first_other-at.result) (c.args.second + c.first_other-at.result) (c.args.count - c.first_other-at.result)
    ≡ comparison_code c.args.storage.now c.args.first c.args.second c.args.count
rest c =
    comparison_code-first c.args.storage.now c.args.first c.args.second c.args.count c.first_other-at.result c.bytes-bytes.result.now c.bytes-others.result.now
    c.bytes-bytes.ensures.bytes c.bytes-others.ensures.bytes c.bytes-bytes.ensures.count c.first_other-at.ensures

pub returns-then-at-bytes : goal.returns-then-at-bytes
returns-then-at-bytes c =
    let none : c.args.count - c.first_other-at.result ≡ 0 = omega (arith, c.if-at-bytes.true, c.bytes-bytes.ensures.count)
    in c.new.ensures ∙ (rw none at (rest (goal.at.returns-then-at-bytes c).After-first_other-at))

pub returns : goal.returns
returns c =
    let s = c.args.storage.now
    in let at = c.first_other-at.result
    in let inside : at < c.args.count = omega (arith, c.if-at-bytes.false, c.bytes-bytes.ensures.count, c.first_other-at.ensures.within)
    in let own : c.from.result ≡ byte_at s (c.args.first + at) = c.from.ensures ∙ ap (λ xs. get_or xs at 0) c.bytes-bytes.ensures.bytes ∙ operand_bytes-at s c.args.first c.args.count at inside
    in let its : c.from-2.result ≡ byte_at s (c.args.second + at) = c.from-2.ensures ∙ ap (λ xs. get_or xs at 0) c.bytes-others.ensures.bytes ∙ operand_bytes-at s c.args.second c.args.count at inside
    in let apart : byte_at s (c.args.first + at) ≢ byte_at s (c.args.second + at)
    = λ e. c.first_other-at.ensures.other (omega (arith, inside, c.bytes-bytes.ensures.count)) (sym c.from-2.ensures ∙ its ∙ sym e ∙ sym own ∙ c.from.ensures)
    in let more : c.args.count - at ≡ suc (c.args.count - (at + 1)) = omega (arith, inside)
    in rw (c.compare_logical.ensures, own, its) (sym (comparison_code-other s (c.args.first + at) (c.args.second + at) (c.args.count - (at + 1)) apart))
    ∙ (rw more at (rest (goal.at.returns c).After-first_other-at))
