use Rattle.std.proofs.Common.{◌+◌, ◌-◌, ◌∙◌, ap, arith, sym}
use Rattle.s360_model.specs.{Psw.protection_key_of, Storage.Storage}
use Rattle.s360_logic.specs.Bytes.{byte_at}
use Rattle.s360_machine.specs.Machine.{seen}
use Rattle.s360_footprint.specs.OperandReadings.{profile_of}
use Rattle.s360_source.proofs.SearchLemmas.{is-other, is-zero, met-read-rest, met-rest}
use Rattle.s360_source.proofs.TranslateLemmas.{met-none}
use Rattle.s360_source.proofs.WalkLemmas.{decided_none}
use Rattle.s360_source.proofs.search.Search.push_met.Goals as goal

pub loop-i-preserved : goal.loop-i-preserved
loop-i-preserved c = (
  met-rest (profile_of c.args.machine.now.whole.core) c.args.self.now.table (protection_key_of c.args.machine.now.whole.core.psw) c.args.self.now.first
      c.loop-i.i (c.args.self.now.count - (c.loop-i.i + 1)) (c.args.self.now.count - c.loop-i.i) _ _ _ (seen c.args.machine.now.whole) c.loop-i.met _ _ _ _
      (ap (λ first. first + c.loop-i.i) c.number.ensures.value)
      (c.number-selected.ensures.value ∙ c.function_address.ensures)
      (c.byte_at.ensures ∙ ap (λ (s : Storage). byte_at s c.number-selected.result) c.storage.ensures)
      (omega (arith, c.loop-i-test.true, c.from-i-end.ensures)) (is-zero c.byte_at.result c.if-byte_at-ne0.false) c.in_ok-one.ensures.met c.and-met.ensures
      c.loop-i.invariant.0,
  met-read-rest c.args.question (profile_of c.args.machine.now.whole.core) c.args.self.now.table
      (protection_key_of c.args.machine.now.whole.core.psw) c.args.self.now.first
      c.loop-i.i (c.args.self.now.count - (c.loop-i.i + 1)) (c.args.self.now.count - c.loop-i.i) _ _ _
      (seen c.args.machine.now.whole) c.loop-i.found.items _ _ _ _
      (ap (λ first. first + c.loop-i.i) c.number.ensures.value)
      (c.number-selected.ensures.value ∙ c.function_address.ensures)
      (c.byte_at.ensures ∙ ap (λ (s : Storage). byte_at s c.number-selected.result) c.storage.ensures)
      (omega (arith, c.loop-i-test.true, c.from-i-end.ensures)) (is-zero c.byte_at.result c.if-byte_at-ne0.false) c.in_ok-one.ensures.read
      c.in_ok-decide.ensures c.loop-i.invariant.1,
)

pub returns-then-byte_at-ne0-clause-met : goal.returns-then-byte_at-ne0-clause-met
returns-then-byte_at-ne0-clause-met c =
    sym (met-none _)
    ∙ met-rest (profile_of c.args.machine.now.whole.core) c.args.self.now.table (protection_key_of c.args.machine.now.whole.core.psw) c.args.self.now.first
    c.loop-i.i (c.args.self.now.count - (c.loop-i.i + 1)) (c.args.self.now.count - c.loop-i.i) _ _ _ (seen c.args.machine.now.whole) c.loop-i.met _ _ _ _
    (ap (λ first. first + c.loop-i.i) c.number.ensures.value)
    (c.number-selected.ensures.value ∙ c.function_address.ensures)
    (c.byte_at.ensures ∙ ap (λ (s : Storage). byte_at s c.number-selected.result) c.storage.ensures)
    (omega (arith, c.loop-i-test.true, c.from-i-end.ensures)) (is-other c.byte_at.result c.if-byte_at-ne0.true) c.in_ok-one.ensures.met c.and-met.ensures
    c.loop-i.invariant.0

pub returns-then-byte_at-ne0-clause-read : goal.returns-then-byte_at-ne0-clause-read
returns-then-byte_at-ne0-clause-read c =
    sym (decided_none c.args.question _)
    ∙ met-read-rest c.args.question (profile_of c.args.machine.now.whole.core) c.args.self.now.table
    (protection_key_of c.args.machine.now.whole.core.psw) c.args.self.now.first
    c.loop-i.i (c.args.self.now.count - (c.loop-i.i + 1)) (c.args.self.now.count - c.loop-i.i) _ _ _
    (seen c.args.machine.now.whole) c.loop-i.found.items _ _ _ _
    (ap (λ first. first + c.loop-i.i) c.number.ensures.value)
    (c.number-selected.ensures.value ∙ c.function_address.ensures)
    (c.byte_at.ensures ∙ ap (λ (s : Storage). byte_at s c.number-selected.result) c.storage.ensures)
    (omega (arith, c.loop-i-test.true, c.from-i-end.ensures)) (is-other c.byte_at.result c.if-byte_at-ne0.true) c.in_ok-one.ensures.read
    c.in_ok-decide.ensures c.loop-i.invariant.1
