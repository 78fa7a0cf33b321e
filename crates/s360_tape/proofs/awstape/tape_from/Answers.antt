use Rattle.s360_device.specs.declared.device_with.DeviceWith.{DeviceWith}
use Rattle.s360_device.specs.DeviceChanges.{bare}
use Rattle.s360_device.specs.Kinds.{MediaWithRoom}
use Rattle.s360_tape.specs.WholeTape.{WholeTapeMedia, seen}
use Rattle.s360_tape.proofs.RefusalLemmas.{accepted-of_refusals, faulty-of_refusals}
use Rattle.s360_tape.proofs.awstape.tape_from.Goals as goal

pub returns-clause-accepted : goal.returns-clause-accepted
returns-clause-accepted c = accepted-of_refusals c.args.file.now c.read_tape.result c.read_tape.ensures.refused

pub returns-clause-faulty : goal.returns-clause-faulty
returns-clause-faulty c = faulty-of_refusals (λ (t : DeviceWith (MediaWithRoom WholeTapeMedia)). (seen (bare t)).media.items) c.args.file.now c.read_tape.result c.read_tape.ensures.tape c.read_tape.ensures.refused
