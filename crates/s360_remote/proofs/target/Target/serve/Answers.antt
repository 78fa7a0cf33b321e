use Rattle.std.proofs.lemmas.Result.{IfOk-weaker}
use Rattle.s360_journal.proofs.RunningLemmas.{OnErr-from}
use Rattle.s360_remote.proofs.ServingLemmas.{ChangesNothing, served-told, told-served}
use Rattle.s360_remote.proofs.target.Target.serve.Goals as goal

pub returns-in_default : goal.returns-in_default
returns-in_default c =
    let nothing : ChangesNothing c.args.request = record {
      registers = c.in_default.not-WriteRegisters;
      register = c.in_default.not-WriteRegister;
      storage = c.in_default.not-WriteStorage;
      step = c.in_default.not-Step;
      continue = c.in_default.not-Continue;
      step_back = c.in_default.not-StepBack;
      continue_back = c.in_default.not-ContinueBack;
      insert = c.in_default.not-Insert;
      insert_if = c.in_default.not-InsertIf;
      remove = c.in_default.not-Remove;
      command = c.in_default.not-Command;
      has_moved = c.in_default.not-HasMoved;
      run = c.in_default.not-Run;
      restart = c.in_default.not-Restart;
      kill = c.in_default.not-Kill;
    }
    in record {
      served = IfOk-weaker c.tell.result _ _ (λ next h. told-served c.args.request c.args.self.now next c.args.replies.now c.tell.new.replies nothing h) c.tell.ensures;
      begun = OnErr-from c.tell.result _ (served-told c.args.request c.args.self.now nothing).1;
    }
