use Rattle.std.proofs.Common.{◌≡◌, rules}
use Rattle.s360_machine.specs.Machine.{storage_size}
use Rattle.s360_remote.specs.Serving.{machine_now}
use Rattle.s360_remote.proofs.target.Target.push_told.Goals as goal

pub returns-in-Registers : goal.returns-in-Registers
returns-in-Registers c = rw c.in-Registers.is c.tell_registers.ensures

pub returns-in-Supported : goal.returns-in-Supported
returns-in-Supported c = rw c.in-Supported.is c.push_packet.ensures

pub returns-in-MemoryMap : goal.returns-in-MemoryMap
returns-in-MemoryMap c =
    let size : c.size.result ≡ storage_size (machine_now c.args.self.now) = search rules
    in rw (c.in-MemoryMap.is, ← size) c.push_packet-in-MemoryMap.ensures
