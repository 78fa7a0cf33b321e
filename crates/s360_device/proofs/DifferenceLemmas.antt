-- The tests of whether two devices are alike decide whether they are equal.
use Rattle.std.proofs.Common.{refl}
use Rattle.std.specs.Cmp.{booleans_Decides}
use Rattle.std.proofs.lemmas.Slice.Eq.{bytes_eq-Decides}
use Rattle.s360_device.specs.declared.card.ReadStacker.TheVariants.{R1, R2, Rp3}
use Rattle.s360_device.specs.declared.card.PunchStacker.TheVariants.{P1, P2, Rp3 as punch_rp3}
use Rattle.s360_device.specs.declared.card.PunchedCard.{PunchedCard}
use Rattle.s360_device.specs.Reader.{Reader}
use Rattle.s360_device.specs.Punch.{Punch}
use Rattle.s360_device.specs.Differences.{DecidesEquality, same_read_stacker, same_punch_stacker, same_punched_card, same_reader, same_punch}
use Rattle.s360_device.proofs.EqualityLemmas.{each, both, by_parts}

pub same_read_stacker-Decides : DecidesEquality same_read_stacker
same_read_stacker-Decides R1 R1 = (λ e. refl, λ e. refl)
same_read_stacker-Decides R2 R2 = (λ e. refl, λ e. refl)
same_read_stacker-Decides Rp3 Rp3 = (λ e. refl, λ e. refl)
same_read_stacker-Decides s t = (λ e. absurd (cc), λ e. absurd (cc))

pub same_punch_stacker-Decides : DecidesEquality same_punch_stacker
same_punch_stacker-Decides P1 P1 = (λ e. refl, λ e. refl)
same_punch_stacker-Decides P2 P2 = (λ e. refl, λ e. refl)
same_punch_stacker-Decides punch_rp3 punch_rp3 = (λ e. refl, λ e. refl)
same_punch_stacker-Decides s t = (λ e. absurd (cc), λ e. absurd (cc))

pub same_punched_card-Decides : DecidesEquality same_punched_card
same_punched_card-Decides = by_parts
    (λ (c : PunchedCard). (c.card, c.stacker))
    (λ p. record { card = p.0; stacker = p.1 })
    (λ c. refl)
    (both bytes_eq-Decides same_punch_stacker-Decides)

pub same_punch-Decides : DecidesEquality same_punch
same_punch-Decides = by_parts
    (λ (p : Punch). (p.sense, p.media))
    (λ p. record { sense = p.0; media = p.1 })
    (λ p. refl)
    (both bytes_eq-Decides (each same_punched_card-Decides))

pub same_reader-Decides : DecidesEquality same_reader
same_reader-Decides = by_parts
    (λ (r : Reader). (r.sense, (r.media.cards, (r.media.stackers, r.media.end_of_file))))
    (λ p. record { sense = p.0; media = record { cards = p.1.0; stackers = p.1.1.0; end_of_file = p.1.1.1 } })
    (λ r. refl)
    (both bytes_eq-Decides (both (each bytes_eq-Decides) (both (each same_read_stacker-Decides) booleans_Decides)))
