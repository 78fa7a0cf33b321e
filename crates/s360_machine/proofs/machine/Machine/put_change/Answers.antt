use Rattle.s360_store.proofs.CoreChangeLemmas.{IsCoreChangeTo-made}
use Rattle.s360_store.proofs.ExchangeLemmas.{AllFit-any, AllFit-from}
use Rattle.s360_machine.proofs.ChangeLemmas.{IsChangeTo-puts}
use Rattle.s360_machine.proofs.machine.Machine.put_change.Goals as goal

pub returns-clause-change : goal.returns-clause-change
returns-clause-change c = IsChangeTo-puts c.args.self.now.whole c.put_event.new.puts c.put_event.new.beside _ c.in_ok-put_event.ensures

pub returns-clause-fit : goal.returns-clause-fit
returns-clause-fit c =
    AllFit-any _ _ (AllFit-from c.args.self.now.whole.core _ (IsCoreChangeTo-made c.args.self.now.whole.core c.put_event.new.puts c.in_ok-put_event.ensures.allowed).cells)
