-- The test of whether two tapes are alike decides whether what is seen of them is equal.
use Rattle.std.proofs.Common.{refl, bytes_eq}
use Rattle.std.specs.Cmp.{booleans_Decides}
use Rattle.std.proofs.lemmas.Bool.Decides.{Decides-eqb, Decides-like}
use Rattle.std.proofs.lemmas.Slice.Eq.{bytes_eq-Decides}
use Rattle.s360_device.specs.Differences.{DecidesEquality}
use Rattle.s360_device.proofs.EqualityLemmas.{each, both, by_parts}
use Rattle.s360_tape.specs.declared.item.TapeItem.TheVariants.{Block, Mark}
use Rattle.s360_tape.specs.Tape.{Tape}
use Rattle.s360_tape.specs.Differences.{same_item, same_tape}

pub same_item-Decides : DecidesEquality same_item
same_item-Decides (Block bytes) (Block others) = Decides-like (bytes_eq bytes others) (λ e. cc) (λ e. cc) (bytes_eq-Decides bytes others)
same_item-Decides Mark Mark = (λ e. refl, λ e. refl)
same_item-Decides i j = (λ e. absurd (cc), λ e. absurd (cc))

pub same_tape-Decides : DecidesEquality same_tape
same_tape-Decides = by_parts
    (λ (t : Tape). (t.sense, (t.media.items, (t.media.position, (t.media.protected, t.media.unloaded)))))
    (λ p. record { sense = p.0; media = record { items = p.1.0; position = p.1.1.0; protected = p.1.1.1.0; unloaded = p.1.1.1.1 } })
    (λ t. refl)
    (both bytes_eq-Decides (both (each same_item-Decides) (both Decides-eqb (both booleans_Decides booleans_Decides))))
