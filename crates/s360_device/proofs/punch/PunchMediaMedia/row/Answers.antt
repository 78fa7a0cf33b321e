use Rattle.std.proofs.Common.{refl}
use Rattle.s360_device.specs.Punch.{punched}
use Rattle.s360_device.proofs.punch.PunchMediaMedia.row.Goals as goal

pub returns-in-Some : goal.returns-in-Some
returns-in-Some c = (punched c.args.self.now.media c.in-Some.field-0, rw (← c.stacker_of.ensures, c.in-Some.is) refl)
