use Rattle.std.proofs.Common.{◌+◌, ◌-◌, ◌∙◌, ◌++◌, [], ◌∷◌, List, ap, arith, sym}
use Rattle.std.proofs.lemmas.List.{append-nil}
use Rattle.s360_store.specs.declared.place.Place.{Place}
use Rattle.s360_store.specs.declared.place.Place.TheVariants.{Byte}
use Rattle.s360_model.specs.Storage.{Storage}
use Rattle.s360_logic.specs.Bytes.{byte_at}
use Rattle.s360_machine.specs.Machine.{seen}
use Rattle.s360_source.proofs.SearchLemmas.{is-other, is-zero, read-rest}
use Rattle.s360_source.proofs.search.Search.push_places.Goals as goal

pub loop-i-preserved : goal.loop-i-preserved
loop-i-preserved c =
    read-rest c.args.self.now.table c.args.self.now.first c.loop-i.i (c.args.self.now.count - (c.loop-i.i + 1)) (c.args.self.now.count - c.loop-i.i) _ _ _
    (seen c.args.machine.now.whole) c.loop-i.found.items _ _ _ (ap (λ first. first + c.loop-i.i) c.number.ensures.value)
    (c.number-selected.ensures.value ∙ c.function_address.ensures)
    (c.byte_at.ensures ∙ ap (λ (s : Storage). byte_at s c.number-selected.result) c.storage.ensures)
    (omega (arith, c.loop-i-test.true, c.from-i-end.ensures)) (is-zero c.byte_at.result c.if-byte_at-ne0.false)
    (c.in_ok-push-2.ensures.items ∙ ap (λ (ps : List Place). ps ++ Byte c.number-selected.result ∷ []) c.in_ok-push.ensures.items) c.loop-i.invariant

pub returns-then-byte_at-ne0 : goal.returns-then-byte_at-ne0
returns-then-byte_at-ne0 c =
    sym (append-nil _)
    ∙ read-rest c.args.self.now.table c.args.self.now.first c.loop-i.i (c.args.self.now.count - (c.loop-i.i + 1)) (c.args.self.now.count - c.loop-i.i) _ _ _
    (seen c.args.machine.now.whole) c.loop-i.found.items _ _ _ (ap (λ first. first + c.loop-i.i) c.number.ensures.value)
    (c.number-selected.ensures.value ∙ c.function_address.ensures)
    (c.byte_at.ensures ∙ ap (λ (s : Storage). byte_at s c.number-selected.result) c.storage.ensures)
    (omega (arith, c.loop-i-test.true, c.from-i-end.ensures)) (is-other c.byte_at.result c.if-byte_at-ne0.true)
    (c.in_ok-push-2.ensures.items ∙ ap (λ (ps : List Place). ps ++ Byte c.number-selected.result ∷ []) c.in_ok-push.ensures.items) c.loop-i.invariant
