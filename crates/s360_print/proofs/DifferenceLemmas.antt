-- The tests of whether two printers, or two consoles, are alike decide whether they are equal.
use Rattle.std.proofs.Common.{refl, bytes_eq}
use Rattle.std.proofs.lemmas.Bool.Decides.{Decides-eqb, Decides-like}
use Rattle.std.proofs.lemmas.Slice.Eq.{bytes_eq-Decides}
use Rattle.s360_device.specs.Differences.{DecidesEquality}
use Rattle.s360_device.proofs.EqualityLemmas.{each, both, by_parts}
use Rattle.s360_print.specs.declared.paper.Record.{Record}
use Rattle.s360_print.specs.declared.typed_line.TypedItem.TheVariants.{Text, Return, Alarm}
use Rattle.s360_print.specs.Positions.{Position}
use Rattle.s360_print.specs.Printer.{Printer}
use Rattle.s360_print.specs.Console.{Console}
use Rattle.s360_print.specs.Differences.{same_position, same_record, same_printer, same_item, same_console}

pub same_position-Decides : DecidesEquality same_position
same_position-Decides = by_parts
    (λ (p : Position). (p.page, p.line))
    (λ p. record { page = p.0; line = p.1 })
    (λ p. refl)
    (both Decides-eqb Decides-eqb)

pub same_record-Decides : DecidesEquality same_record
same_record-Decides = by_parts
    (λ (r : Record). (r.page, (r.line, r.bytes)))
    (λ p. record { page = p.0; line = p.1.0; bytes = p.1.1 })
    (λ r. refl)
    (both Decides-eqb (both Decides-eqb bytes_eq-Decides))

pub same_item-Decides : DecidesEquality same_item
same_item-Decides (Text line) (Text other) = Decides-like (bytes_eq line other) (λ e. cc) (λ e. cc) (bytes_eq-Decides line other)
same_item-Decides (Return line) (Return other) = Decides-like (bytes_eq line other) (λ e. cc) (λ e. cc) (bytes_eq-Decides line other)
same_item-Decides Alarm Alarm = (λ e. refl, λ e. refl)
same_item-Decides i j = (λ e. absurd (cc), λ e. absurd (cc))

pub same_printer-Decides : DecidesEquality same_printer
same_printer-Decides = by_parts
    (λ (p : Printer). (p.sense, (p.media.records, p.media.position)))
    (λ p. record { sense = p.0; media = record { records = p.1.0; position = p.1.1 } })
    (λ p. refl)
    (both bytes_eq-Decides (both (each same_record-Decides) same_position-Decides))

pub same_console-Decides : DecidesEquality same_console
same_console-Decides = by_parts
    (λ (c : Console). (c.sense, (c.media.typed, (c.media.entered, c.media.taken))))
    (λ p. record { sense = p.0; media = record { typed = p.1.0; entered = p.1.1.0; taken = p.1.1.1 } })
    (λ c. refl)
    (both bytes_eq-Decides (both (each same_item-Decides) (both (each bytes_eq-Decides) Decides-eqb)))
