-- What is done at the end of a list, and taken back: an item is put there, or the last one is taken (kept).
use Rattle.std.specs.Prelude.{ℕ, ◌-◌, ◌<◌, List, [], ◌∷◌, ◌++◌, length, take, slice_get}
use Rattle.std.specs.Option.{option_map_or}
use Rattle.s360_device.specs.declared.motion.Motion.{Motion}
use Rattle.s360_device.specs.declared.motion.Motion.TheVariants.{Stay, Put, Take}
use Rattle.s360_device.specs.Kinds.{Kind}
use Rattle.s360_device.specs.Rows.{Table}

-- an item can be taken only where there is one
abbrev pub CanMove : {T : Type 0} → List T → Motion T → Type 0
CanMove items Take = 0 < length items
CanMove items motion = Unit {0}

-- the number of items for which it needs room
abbrev pub items_put : {T : Type 0} → Motion T → ℕ
items_put (Put item) = 1
items_put motion = 0

-- the list after it
abbrev pub after_motion : {T : Type 0} → List T → Motion T → List T
after_motion items Stay = items
after_motion items (Put item) = items ++ item ∷ []
after_motion items Take = take (length items - 1) items

-- what takes it back
abbrev pub motion_back : {T : Type 0} → List T → Motion T → Motion T
motion_back items Stay = Stay
motion_back items (Put item) = Take
motion_back items Take = option_map_or (λ item. Put item) (slice_get items (length items - 1)) Take

-- media that are one list, and are seen as they are
abbrev pub motion_kind : {T : Type 0} → Table (List T) → Kind (List T) (List T) (Motion T)
motion_kind table = record {
  see = λ items. items;
  table = table;
  can = CanMove;
  after = after_motion;
  back = motion_back;
  needs = items_put;
}
