use Rattle.std.proofs.Common.{◌+◌, ◌-◌, ◌∙◌, ap, arith}
use Rattle.s360_model.specs.Storage.{Storage}
use Rattle.s360_logic.specs.Bytes.{byte_at}
use Rattle.s360_machine.specs.Machine.{seen}
use Rattle.s360_source.proofs.SearchLemmas.{found-rest, is-other, is-zero}
use Rattle.s360_source.proofs.search.Search.is_found.Goals as goal

pub loop-i-preserved : goal.loop-i-preserved
loop-i-preserved c =
    found-rest c.args.self.now.table c.args.self.now.first c.loop-i.i (c.args.self.now.count - (c.loop-i.i + 1)) (c.args.self.now.count - c.loop-i.i) _ _ _
    (seen c.args.machine.now.whole) _ _ (ap (λ first. first + c.loop-i.i) c.number.ensures.value)
    (c.number-selected.ensures.value ∙ c.function_address.ensures)
    (c.byte_at.ensures ∙ ap (λ (s : Storage). byte_at s c.number-selected.result) c.storage.ensures)
    (omega (arith, c.loop-i-test.true, c.from-i-end.ensures)) (is-zero c.byte_at.result c.if-byte_at-ne0.false) c.loop-i.invariant

pub returns-then-byte_at-ne0 : goal.returns-then-byte_at-ne0
returns-then-byte_at-ne0 c =
    found-rest c.args.self.now.table c.args.self.now.first c.loop-i.i (c.args.self.now.count - (c.loop-i.i + 1)) (c.args.self.now.count - c.loop-i.i) _ _ _
    (seen c.args.machine.now.whole) _ _ (ap (λ first. first + c.loop-i.i) c.number.ensures.value)
    (c.number-selected.ensures.value ∙ c.function_address.ensures)
    (c.byte_at.ensures ∙ ap (λ (s : Storage). byte_at s c.number-selected.result) c.storage.ensures)
    (omega (arith, c.loop-i-test.true, c.from-i-end.ensures)) (is-other c.byte_at.result c.if-byte_at-ne0.true) c.loop-i.invariant
