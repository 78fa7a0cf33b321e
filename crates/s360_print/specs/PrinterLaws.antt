-- The exchange of the printer's media with a change, done twice (kept).
use Rattle.std.proofs.Common.{List, ap}
use Rattle.s360_device.specs.declared.motion.Motion.{Motion}
use Rattle.s360_device.specs.Kinds.{RestoresBoth}
use Rattle.s360_device.specs.MotionLaws.{CanMove-again, after_motion-twice, motion_back-twice}
use Rattle.s360_print.specs.declared.paper.Record.{Record}
use Rattle.s360_print.specs.PrinterChanges.{printer_kind}

pub printer_change_restores_both : RestoresBoth printer_kind
printer_change_restores_both = record {
  again = λ p x can. CanMove-again p.records x.motion can;
  media = λ p x can. ap (λ (records : List Record). record p { records = records }) (after_motion-twice p.records x.motion can);
  change = λ p x can. ap (λ (m : Motion Record). record x { motion = m }) (motion_back-twice p.records x.motion can);
}
