use Rattle.s360_store.specs.declared.protection.Access.{Access}
use Rattle.s360_machine.specs.Machine.{seen}
use Rattle.s360_footprint.specs.OperandReadings.{conditions_read, profile_of}
use Rattle.s360_source.proofs.StatusLemmas.{never-privileged, state-code, state-read}
use Rattle.s360_source.proofs.status.push_privileged.Goals as goal

pub returns-clause-code : goal.returns-clause-code
returns-clause-code c =
    state-code (conditions_read (profile_of c.args.machine.now.whole.core) c.args.address c.args.count c.args.count Access.Fetch)
    (seen c.args.machine.now.whole) _ _
    (never-privileged c.args.address c.args.count c.args.count Access.Fetch (seen c.args.machine.now.whole))
    c.in_ok-met.ensures.code c.in_ok-exception.ensures.code

pub returns-clause-read : goal.returns-clause-read
returns-clause-read c =
    state-read c.args.question (conditions_read (profile_of c.args.machine.now.whole.core) c.args.address c.args.count c.args.count Access.Fetch)
    (seen c.args.machine.now.whole) c.args.found.now.items _ _ c.in_ok-met.ensures.read c.in_ok-exception.ensures.read
