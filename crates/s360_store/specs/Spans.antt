-- Places that follow each other in a list: one, or those of successive bytes (kept).
use Rattle.std.specs.Prelude.{◌<◌, ◌≤◌, ◌+◌, ◌^◌, ◌++◌, ℕ, zero, suc, List, [], ◌∷◌}
use Rattle.s360_store.specs.declared.place.Place.{Place}
use Rattle.s360_store.specs.declared.place.Place.TheVariants.{Byte}
use Rattle.s360_store.specs.declared.items.Item.{Item}
use Rattle.s360_store.specs.declared.items.Item.TheVariants.{Single, Run}
use Rattle.s360_store.specs.declared.span.Span.{Span}
use Rattle.s360_store.specs.declared.span.Span.TheVariants.{Place as OnePlace, Bytes}

-- the places of so many bytes from an address on
abbrev pub byte_places : ℕ → ℕ → List Place
byte_places address zero = []
byte_places address (suc n) = Byte address ∷ byte_places (address + 1) n

abbrev pub places_of_span : Span → List Place
places_of_span (OnePlace p) = p ∷ []
places_of_span (Bytes address count) = byte_places address count

-- the places of spans
abbrev pub places_of_spans : List Span → List Place
places_of_spans [] = []
places_of_spans (s ∷ ss) = places_of_span s ++ places_of_spans ss

-- it has places, with addresses of 32 bits
abbrev pub IsSpan : Span → Type 0
IsSpan (OnePlace p) = Unit {0}
IsSpan (Bytes address count) = (0 < count) × (address + count ≤ 2 ^ 32)

abbrev pub AreSpans : List Span → Type 0
AreSpans [] = Unit {0}
AreSpans (s ∷ ss) = IsSpan s × AreSpans ss

-- the places of an item as a span
abbrev pub span_of_item : Item → Span
span_of_item (Single c) = OnePlace c.place
span_of_item (Run address count) = Bytes address count
