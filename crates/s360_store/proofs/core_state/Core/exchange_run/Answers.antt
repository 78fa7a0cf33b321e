use Rattle.std.proofs.Common.{◌≡◌, ◌+◌, ◌-◌, ◌∙◌, sym, ap, length, take, drop, arith, subst, length-drop, length-take-le}
use Rattle.s360_model.specs.Core.{Core, core_with_bytes}
use Rattle.s360_store.specs.Cells.{after_exchange, byte_cells}
use Rattle.s360_store.specs.Plans.{HasBytes}
use Rattle.s360_store.proofs.RunLemmas.{AllFit-run, IsPlanOf-bytes, cells_after_exchange-bytes, run-fits, run-inside}
use Rattle.s360_store.proofs.core_state.Core.exchange_run.Goals as goal
use Rattle.s360_store.proofs.core_state.Core.exchange_run.Goals.{After-swap_run}

pub swap_run-requires : goal.swap_run-requires
swap_run-requires c = record {
  inside = subst (λ (m : Core). HasBytes c.args.address (length c.args.bytes.now) m) (sym c.self.view_is) (run-inside c.args.self.now c.args.address c.args.bytes.now c.requires.can c.requires.some);
}

inside : (c : After-swap_run) → HasBytes c.args.address (length c.args.bytes.now) c.args.self.now
inside c = run-inside c.args.self.now c.args.address c.args.bytes.now c.requires.can c.requires.some

-- the bytes that stood there
taken : (c : After-swap_run) → c.swap_run.new.bytes ≡ take (length c.args.bytes.now) (drop c.args.address c.args.self.now.storage.bytes)
taken c =
    let asked : c.args.address + length c.args.bytes.now - c.args.address ≡ length c.args.bytes.now = omega arith
    in rw asked at (c.swap_run.ensures.bytes ∙ ap (λ (m : Core). take (c.args.address + length c.args.bytes.now - c.args.address) (drop c.args.address m.storage.bytes)) c.self.view_is)

pub returns-clause-core : goal.returns-clause-core
returns-clause-core c =
    let made : after_exchange c.args.self.now (byte_cells c.args.address c.args.bytes.now) ≡ core_with_bytes c.args.address c.args.bytes.now c.args.self.now
    = (IsPlanOf-bytes c.args.self.now c.args.address c.args.bytes.now (run-fits c.args.self.now c.args.address c.args.bytes.now c.requires.can) (inside (goal.at.returns-clause-core c).After-swap_run)).makes
    in rw (c.swap_run.ensures.storage, made) (ap (λ (m : Core). core_with_bytes c.args.address c.args.bytes.now m) c.self.view_is)

pub returns-clause-cells : goal.returns-clause-cells
returns-clause-cells c = sym (cells_after_exchange-bytes c.args.self.now c.args.address c.args.bytes.now c.swap_run.new.bytes (inside (goal.at.returns-clause-cells c).After-swap_run) (taken (goal.at.returns-clause-cells c).After-swap_run))

pub returns-clause-count : goal.returns-clause-count
returns-clause-count c =
    ap length (taken (goal.at.returns-clause-count c).After-swap_run) ∙ length-take-le (length c.args.bytes.now) (drop c.args.address c.args.self.now.storage.bytes) (omega (arith, inside (goal.at.returns-clause-count c).After-swap_run, length-drop c.args.address c.args.self.now.storage.bytes))

pub returns-clause-fit : goal.returns-clause-fit
returns-clause-fit c = AllFit-run _ c.args.address c.swap_run.new.bytes c.swap_run.ensures.fit
