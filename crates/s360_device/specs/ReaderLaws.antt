-- The exchange of the reader's media with a change, done twice (kept).
use Rattle.std.proofs.Common.{List, ap}
use Rattle.s360_device.specs.declared.card.ReadStacker.{ReadStacker}
use Rattle.s360_device.specs.declared.motion.Motion.{Motion}
use Rattle.s360_device.specs.Kinds.{RestoresBoth}
use Rattle.s360_device.specs.MotionLaws.{CanMove-again, after_motion-twice, motion_back-twice}
use Rattle.s360_device.specs.ReaderChanges.{reader_kind}

pub reader_change_restores_both : RestoresBoth reader_kind
reader_change_restores_both = record {
  again = λ r x can. CanMove-again r.stackers x.motion can;
  media = λ r x can. ap (λ (stackers : List ReadStacker). record r { stackers = stackers }) (after_motion-twice r.stackers x.motion can);
  change = λ r x can. ap (λ (m : Motion ReadStacker). record x { motion = m }) (motion_back-twice r.stackers x.motion can);
}
