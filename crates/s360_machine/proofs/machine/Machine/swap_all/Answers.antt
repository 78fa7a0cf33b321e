use Rattle.s360_store.specs.CoreChanges.{cells_of_change}
use Rattle.s360_machine.specs.Changes.{change_of}
use Rattle.s360_machine.proofs.SwapLemmas.{IsSwap, IsSwap-parts}
use Rattle.s360_machine.proofs.machine.Machine.swap_all.Goals as goal
use Rattle.s360_machine.proofs.machine.Machine.swap_all.Goals.{After-exchange_beside}

exchanged : (c : After-exchange_beside) → IsSwap c.args.self.now.whole c.args.changes.now c.exchange_beside.new.self.whole (change_of (cells_of_change c.exchange.new.self) c.exchange_beside.new.beside)
exchanged c =
    rw (← c.self.view_is, ← c.changes.view_is)
    (IsSwap-parts _ c.exchange_beside.new.self.whole (cells_of_change c.changes.inside.core) (cells_of_change c.exchange.new.self) c.changes.inside.beside c.exchange_beside.new.beside c.exchange.new.core
    c.exchange.ensures.core c.exchange_beside.ensures.machine c.exchange.ensures.change c.exchange_beside.ensures.beside (rw (← c.self.view_is, ← c.changes.view_is) at c.requires.can) c.exchange.ensures.fit)

pub returns-clause-again : goal.returns-clause-again
returns-clause-again c = (exchanged (goal.at.returns-clause-again c).After-exchange_beside).again

pub returns-clause-restores_machine : goal.returns-clause-restores_machine
returns-clause-restores_machine c = (exchanged (goal.at.returns-clause-restores_machine c).After-exchange_beside).whole

pub returns-clause-restores_changes : goal.returns-clause-restores_changes
returns-clause-restores_changes c = (exchanged (goal.at.returns-clause-restores_changes c).After-exchange_beside).change
