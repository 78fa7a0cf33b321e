-- What a command or the operator does to the console's media, exchanged with them (kept).
use Rattle.std.specs.Prelude.{ℕ, List}
use Rattle.s360_device.specs.Kinds.{Kind}
use Rattle.s360_device.specs.Motions.{CanMove, items_put, after_motion, motion_back}
use Rattle.s360_print.specs.declared.console_change.ConsoleChange.{ConsoleChange}
use Rattle.s360_print.specs.declared.console_change.ListChange.{ListChange}
use Rattle.s360_print.specs.declared.console_change.ListChange.TheVariants.{Typed, Entered}
use Rattle.s360_print.specs.declared.typed_line.TypedItem.{TypedItem}
use Rattle.s360_print.specs.Console.{ConsoleMedia, console_table}

-- what is done to one of its lists: what was typed, or the lines entered. It can be done
abbrev pub CanChangeList : List TypedItem → List (List ℕ) → ListChange → Type 0
CanChangeList typed entered (Typed motion) = CanMove typed motion
CanChangeList typed entered (Entered motion) = CanMove entered motion

-- the lists after it
abbrev pub typed_after : List TypedItem → ListChange → List TypedItem
typed_after typed (Typed motion) = after_motion typed motion
typed_after typed (Entered motion) = typed

abbrev pub entered_after : List (List ℕ) → ListChange → List (List ℕ)
entered_after entered (Typed motion) = entered
entered_after entered (Entered motion) = after_motion entered motion

-- what takes it back
abbrev pub list_change_back : List TypedItem → List (List ℕ) → ListChange → ListChange
list_change_back typed entered (Typed motion) = Typed (motion_back typed motion)
list_change_back typed entered (Entered motion) = Entered (motion_back entered motion)

-- the number of items, and likewise of lines, for which it needs room
abbrev pub items_needed : ListChange → ℕ
items_needed (Typed motion) = items_put motion
items_needed (Entered motion) = items_put motion

abbrev pub console_kind : Kind ConsoleMedia ConsoleMedia ConsoleChange
console_kind = record {
  see = λ c. c;
  table = console_table;
  can = λ c x. CanChangeList c.typed c.entered x.list;
  after = λ c x. record { typed = typed_after c.typed x.list; entered = entered_after c.entered x.list; taken = x.taken };
  back = λ c x. record { list = list_change_back c.typed c.entered x.list; taken = c.taken };
  needs = λ x. items_needed x.list;
}
