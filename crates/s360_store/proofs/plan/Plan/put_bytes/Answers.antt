use Rattle.std.proofs.Common.{◌≡◌, ◌+◌, ◌<◌, arith, add-zero, inr, refl, get_or, length}
use Rattle.std.proofs.lemmas.List.{drop_all, drop_more}
use Rattle.s360_store.specs.declared.place.Place.TheVariants.{Byte}
use Rattle.s360_store.specs.Plans.{after_put_bytes}
use Rattle.s360_store.proofs.ByteCellLemmas.{AddsToPlan-bytes}
use Rattle.s360_store.proofs.PutLemmas.{length-after_put}
use Rattle.s360_store.proofs.plan.Plan.put_bytes.Goals as goal

-- the plan as it was, where nothing was done
kept : (c : goal.After-loop-i) → c.put_run.new.self ≡ c.args.self.now
kept c = rw c.if-branch.false at c.in_ok-put_run.ensures.ok

kept_within : (c : goal.After-from) → c.put_run.new.self ≡ c.args.self.now
kept_within c = rw c.if-branch.false at c.in_ok-put_run.ensures.ok

pub put-requires : goal.put-requires
put-requires c =
    let same : length c.put_run.new.self ≡ length c.args.self.now = rw (kept_within c) refl
    in inr (omega (arith, c.loop-i.invariant.few, c.requires.few, same))

pub loop-i-init : goal.loop-i-init
loop-i-init c = record {
  cells = rw add-zero refl;
  few = omega arith;
}

pub loop-i-preserved : goal.loop-i-preserved
loop-i-preserved c =
    let next : c.args.address + (c.loop-i.i + 1) ≡ c.args.address + c.loop-i.i + 1 = omega arith
    in let within : c.loop-i.i < length c.args.bytes.now = omega arith
    in rw (c.in_ok-put.ensures.ok, c.from.ensures) (record {
      cells = rw next (rw (drop_more c.args.bytes.now c.loop-i.i 0 within) at c.loop-i.invariant.cells);
      few = omega (arith, c.loop-i.invariant.few, length-after_put c.loop-i.self (Byte (c.args.address + c.loop-i.i)) (get_or c.args.bytes.now c.loop-i.i 0));
    })

all_put : (c : goal.After-loop-i) → c.loop-i.self ≡ after_put_bytes c.args.self.now c.args.address c.args.bytes.now
all_put c =
    let none = drop_all c.loop-i.i c.args.bytes.now (omega arith)
    in rw (none, kept c) at c.loop-i.invariant.cells

pub returns-clause-ok : goal.returns-clause-ok
returns-clause-ok c = rw (all_put c) (AddsToPlan-bytes c.args.self.now c.args.address c.args.bytes.now (λ i l. omega (arith, c.type_inv.bytes i)))

pub returns-clause-cells : goal.returns-clause-cells
returns-clause-cells c = all_put c

-- the plan with all bytes done
done : (c : goal.Then-branch) → c.put_run.new.self ≡ after_put_bytes c.args.self.now c.args.address c.args.bytes.now
done c = rw c.if-branch.true at c.in_ok-put_run.ensures.ok

pub returns-then-branch-clause-ok : goal.returns-then-branch-clause-ok
returns-then-branch-clause-ok c = rw (done c) (AddsToPlan-bytes c.args.self.now c.args.address c.args.bytes.now (λ i l. omega (arith, c.type_inv.bytes i)))
