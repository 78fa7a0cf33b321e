use Rattle.std.proofs.Common.{None, rules, tests}
use Rattle.s360_machine.specs.Machine.{seen_media}
use Rattle.s360_machine.specs.Media.{media_of}
use Rattle.s360_machine.specs.Planned.{IsMediaChangeTo}
use Rattle.s360_machine.proofs.IoLemmas.{media-stay}
use Rattle.s360_machine.proofs.media.Devices.change_of_key.Goals as goal

pub returns-in-Start : goal.returns-in-Start
returns-in-Start c =
    let stay : IsMediaChangeTo (media_of c.args.self.now) None (seen_media (media_of c.args.self.now)) = media-stay (media_of c.args.self.now)
    in search (tests, rules)
