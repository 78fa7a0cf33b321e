-- Where the masks are zero, nothing interrupts.
use Rattle.std.proofs.Common.{◌≡◌, ℕ, Bool, true, false, ◌&&◌, ◌||◌, refl, cond, None, Some}
use Rattle.s360_model.specs.Psw.{channel_mask_of, external_mask_of}
use Rattle.s360_psw.specs.declared.class.Class.TheVariants.{External, InputOutput}
use Rattle.s360_psw.specs.declared.pending.Pending.{Pending}
use Rattle.s360_psw.specs.Pending.{lets_interrupt, next_interruption_of}

none-of-masks : (e a b x y z : Bool) → (e || a) || b ≡ false → cond (e && x) (Some External) (cond ((a && y) || (b && z)) (Some InputOutput) None) ≡ None
none-of-masks false false false x y z h = refl
none-of-masks e a b x y z h = absurd (cc)

pub masks-are-zero : (psw : ℕ) (p : Pending) → lets_interrupt psw ≡ false → next_interruption_of psw p ≡ None
masks-are-zero psw p h = none-of-masks (external_mask_of psw) (channel_mask_of psw 0) (channel_mask_of psw 1) _ _ _ h
