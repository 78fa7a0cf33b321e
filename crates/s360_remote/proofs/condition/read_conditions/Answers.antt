use Rattle.std.proofs.Common.{◌≡◌, ◌<◌, ◌++◌, ◌∷◌, [], Err, Ok, length, rules, sym, subst}
use Rattle.s360_packet.specs.Conditions.{condition_in}
use Rattle.s360_remote.proofs.ConditionLemmas.{IsReadSoFar, IsReadSoFar-next, fault-found, wrong-found}
use Rattle.s360_remote.proofs.condition.read_conditions.Goals as goal

pub returns-in_err-condition : goal.returns-in_err-condition
returns-in_err-condition c =
    let some : 0 < length c.loop-rest.rest.now = search rules
    in let is : c.from_residual.result ≡ Err c.in_err-condition.field-0.0 = search rules
    in fault-found c.from_residual.result _ c.args.text.now c.loop-rest.conditions.items c.loop-rest.rest.now c.in_err-condition.field-0.0 c.loop-rest.invariant some is c.in_err-condition.ensures.read

pub returns-in_err-condition-2 : goal.returns-in_err-condition-2
returns-in_err-condition-2 c =
    let some : 0 < length c.loop-rest.rest.now = search rules
    in let is : c.from_residual-in_err-condition-2.result ≡ Err c.in_err-condition-2.field-0.0 = search rules
    in let first : condition_in c.loop-rest.rest.now ≡ Ok (c.as_slice.result.now, c.in_ok-condition.behind.now) = search rules
    in wrong-found c.from_residual-in_err-condition-2.result _ c.args.text.now c.loop-rest.conditions.items c.loop-rest.rest.now c.as_slice.result.now c.in_ok-condition.behind.now c.in_err-condition-2.field-0.0
    c.loop-rest.invariant some first is c.in_err-condition-2.ensures

pub loop-rest-preserved : goal.loop-rest-preserved
loop-rest-preserved c =
    let some : 0 < length c.loop-rest.rest.now = search rules
    in let less : length c.in_ok-condition.behind.now < length c.loop-rest.rest.now = search rules
    in let first : condition_in c.loop-rest.rest.now ≡ Ok (c.as_slice.result.now, c.in_ok-condition.behind.now) = search rules
    in let pushed : c.push.new.self.items ≡ c.loop-rest.conditions.items ++ c.in_ok-condition-2.condition ∷ [] = search rules
    in subst (λ l. IsReadSoFar c.args.text.now l c.in_ok-condition.behind.now) (sym pushed)
    (IsReadSoFar-next c.args.text.now c.loop-rest.conditions.items c.loop-rest.rest.now c.as_slice.result.now c.in_ok-condition.behind.now c.in_ok-condition-2.condition c.loop-rest.invariant some less first c.in_ok-condition-2.ensures)
