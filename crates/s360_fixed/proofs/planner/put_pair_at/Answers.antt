use Rattle.std.proofs.Common.{◌≡◌, ◌+◌, ap, arith, false, is_none, refl, rules}
use Rattle.s360_model.specs.Core.{Core}
use Rattle.s360_store.specs.declared.place.Place.TheVariants.{Byte as PlaceByte}
use Rattle.s360_fixed.specs.Outcomes.{is_odd}
use Rattle.s360_fixed.proofs.OperandLemmas.{even-from, pair_outcome-refused, pair_outcome-used}
use Rattle.s360_fixed.proofs.planner.put_pair_at.Goals as goal

pub returns-in-Ok : goal.returns-in-Ok
returns-in-Ok g c =
    rw (pair_outcome-used c.args.pair c.args.view.now c.args.r1 c.in-Ok.second c.args.address c.in-Ok.ensures.none c.in-Ok.ensures.value) c.put_pair.ensures

pub returns-in-Err : goal.returns-in-Err
returns-in-Err g c =
    let some : is_none c.odd_partner.result ≡ false = search rules
    in let even : is_odd c.args.r1 ≡ false = even-from (is_odd c.args.r1) (c.args.r1 + 1) c.odd_partner.result c.odd_partner.ensures some
    in rw (← pair_outcome-refused c.args.pair c.args.view.now c.args.r1 c.args.address c.in-Err.code even c.in-Err.ensures.code) (record {
      ends = refl;
      makes = c.requires.none.same;
      allowed = c.requires.none.allowed;
      few = omega (arith, c.requires.none.none);
      follow = (ap (λ (m : Core). m.storage) c.requires.none.same, λ a. c.requires.none.any (PlaceByte a));
    })
