-- Whether two printers, or two consoles, are alike in sense bytes and media, as a test (ours).
use Rattle.std.specs.Prelude.{Bool, true, false, ◌&&◌, nat_eq, bytes_eq}
use Rattle.std.specs.Cmp.Lexicographic.{pointwise}
use Rattle.s360_print.specs.declared.paper.Record.{Record}
use Rattle.s360_print.specs.declared.typed_line.TypedItem.{TypedItem}
use Rattle.s360_print.specs.declared.typed_line.TypedItem.TheVariants.{Text, Return, Alarm}
use Rattle.s360_print.specs.Positions.{Position}
use Rattle.s360_print.specs.Printer.{Printer}
use Rattle.s360_print.specs.Console.{Console}

abbrev pub same_position : Position → Position → Bool
same_position p q = nat_eq p.page q.page && nat_eq p.line q.line

abbrev pub same_record : Record → Record → Bool
same_record r s = nat_eq r.page s.page && (nat_eq r.line s.line && bytes_eq r.bytes s.bytes)

abbrev pub same_printer : Printer → Printer → Bool
same_printer p q =
    bytes_eq p.sense q.sense
    && (pointwise same_record p.media.records q.media.records
    && same_position p.media.position q.media.position)

abbrev pub same_item : TypedItem → TypedItem → Bool
same_item (Text line) (Text other) = bytes_eq line other
same_item (Return line) (Return other) = bytes_eq line other
same_item Alarm Alarm = true
same_item item other = false

abbrev pub same_console : Console → Console → Bool
same_console c d =
    bytes_eq c.sense d.sense
    && (pointwise same_item c.media.typed d.media.typed
    && (pointwise bytes_eq c.media.entered d.media.entered
    && nat_eq c.media.taken d.media.taken))
