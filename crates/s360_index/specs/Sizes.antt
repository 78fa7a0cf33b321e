-- Places that some machine has: no storage has more than 1,048,576 bytes (kept).
use Rattle.std.specs.Prelude.{◌<◌, ◌≤◌, ◌+◌, List, [], ◌∷◌}
use Rattle.s360_store.specs.declared.place.Place.{Place}
use Rattle.s360_store.specs.declared.place.Place.TheVariants.{Byte}
use Rattle.s360_store.specs.declared.span.Span.{Span}
use Rattle.s360_store.specs.declared.span.Span.TheVariants.{Place as OnePlace, Bytes}

-- if the place is a byte, some storage has it
abbrev pub IsWithinSize : Place → Type 0
IsWithinSize (Byte a) = a < 1048576
IsWithinSize p = Unit {0}

abbrev pub AreWithinSize : List Place → Type 0
AreWithinSize [] = Unit {0}
AreWithinSize (p ∷ ps) = IsWithinSize p × AreWithinSize ps

-- the span has places, and these are such
abbrev pub IsSpanWithinSize : Span → Type 0
IsSpanWithinSize (OnePlace p) = IsWithinSize p
IsSpanWithinSize (Bytes address count) = (0 < count) × (address + count ≤ 1048576)

abbrev pub AreSpansWithinSize : List Span → Type 0
AreSpansWithinSize [] = Unit {0}
AreSpansWithinSize (s ∷ ss) = IsSpanWithinSize s × AreSpansWithinSize ss
