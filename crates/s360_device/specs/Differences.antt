-- Whether two readers, or two punches, are alike in sense bytes and media, as a test (ours).
use Rattle.std.specs.Prelude.{◌≡◌, ◌↔◌, Bool, true, false, ◌&&◌, IsTrue, bytes_eq}
use Rattle.std.specs.Bool.{beq}
use Rattle.std.specs.Cmp.Lexicographic.{pointwise}
use Rattle.s360_device.specs.declared.card.ReadStacker.{ReadStacker}
use Rattle.s360_device.specs.declared.card.ReadStacker.TheVariants.{R1, R2, Rp3}
use Rattle.s360_device.specs.declared.card.PunchStacker.{PunchStacker}
use Rattle.s360_device.specs.declared.card.PunchStacker.TheVariants.{P1, P2, Rp3 as punch_rp3}
use Rattle.s360_device.specs.declared.card.PunchedCard.{PunchedCard}
use Rattle.s360_device.specs.Reader.{Reader}
use Rattle.s360_device.specs.Punch.{Punch}

-- a test of two values is true exactly if they are equal
abbrev pub DecidesEquality : {A : Type 0} → (A → A → Bool) → Type 0
DecidesEquality {A = A} test = (a b : A) → IsTrue (test a b) ↔ (a ≡ b)

abbrev pub same_read_stacker : ReadStacker → ReadStacker → Bool
same_read_stacker R1 R1 = true
same_read_stacker R2 R2 = true
same_read_stacker Rp3 Rp3 = true
same_read_stacker s t = false

abbrev pub same_punch_stacker : PunchStacker → PunchStacker → Bool
same_punch_stacker P1 P1 = true
same_punch_stacker P2 P2 = true
same_punch_stacker punch_rp3 punch_rp3 = true
same_punch_stacker s t = false

abbrev pub same_punched_card : PunchedCard → PunchedCard → Bool
same_punched_card c d = bytes_eq c.card d.card && same_punch_stacker c.stacker d.stacker

abbrev pub same_reader : Reader → Reader → Bool
same_reader r s =
    bytes_eq r.sense s.sense
    && (pointwise bytes_eq r.media.cards s.media.cards
    && (pointwise same_read_stacker r.media.stackers s.media.stackers
    && beq r.media.end_of_file s.media.end_of_file))

abbrev pub same_punch : Punch → Punch → Bool
same_punch p q = bytes_eq p.sense q.sense && pointwise same_punched_card p.media q.media
