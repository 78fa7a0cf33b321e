-- What a command or the operator does to the reader's media, exchanged with them (kept).
use Rattle.std.specs.Prelude.{Option, Some, None}
use Rattle.s360_device.specs.declared.card.ReadStacker.{ReadStacker}
use Rattle.s360_device.specs.declared.reader_change.ReaderChange.{ReaderChange}
use Rattle.s360_device.specs.Kinds.{Kind}
use Rattle.s360_device.specs.Motions.{CanMove, after_motion, items_put, motion_back}
use Rattle.s360_device.specs.Reader.{ReaderMedia, fed_to, reader_table}

abbrev pub reader_kind : Kind ReaderMedia ReaderMedia ReaderChange
reader_kind = record {
  see = λ r. r;
  table = reader_table;
  can = λ r x. CanMove r.stackers x.motion;
  after = λ r x. record r { stackers = after_motion r.stackers x.motion; end_of_file = x.end_of_file };
  back = λ r x. record { end_of_file = r.end_of_file; motion = motion_back r.stackers x.motion };
  needs = λ x. items_put x.motion;
}

-- the next card is fed, if there is a stacker for it
abbrev pub fed_if : ReaderMedia → Option ReadStacker → ReaderMedia
fed_if r None = r
fed_if r (Some stacker) = fed_to r stacker
