use Rattle.std.proofs.Common.{refl, sym}
use Rattle.s360_model.specs.Psw.{protection_key_of}
use Rattle.s360_machine.specs.Machine.{seen}
use Rattle.s360_footprint.specs.OperandReadings.{profile_of}
use Rattle.s360_source.proofs.TranslateLemmas.{functions-met-more, functions-more}
use Rattle.s360_source.proofs.WalkLemmas.{decided_none}
use Rattle.s360_source.proofs.translating.push_functions_met.Goals as goal

pub loop-i-init : goal.loop-i-init
loop-i-init c = (refl, sym (decided_none c.args.question c.args.found.now.items))

pub loop-i-preserved : goal.loop-i-preserved
loop-i-preserved c =
    let m = seen c.args.machine.now.whole
    in let p = profile_of c.args.machine.now.whole.core
    in let key = protection_key_of c.args.machine.now.whole.core.psw
    in (
      functions-met-more p c.args.table key c.args.first _ c.loop-i.i m c.loop-i.met _ _ c.number.ensures.value c.loop-i.invariant.0 c.in_ok-one.ensures.met
          c.and-met.ensures,
      functions-more c.args.question p c.args.table key c.args.first _ c.loop-i.i m c.args.found.now.items c.loop-i.found.items _ c.number.ensures.value
          c.loop-i.invariant.1 c.in_ok-one.ensures.read,
    )
