use Rattle.s360_channel.proofs.engine.channel_plan.Goals as goal

pub returns-clause-executes : goal.returns-clause-executes
returns-clause-executes g c =
    let x = c.in_ok-executed.ensures.executes
    in let run = c.in_ok-plan_run.ensures
    in record { stores = λ m e. rw (← x.stores) (run.stores m e); few = run.few; step = x.step }
