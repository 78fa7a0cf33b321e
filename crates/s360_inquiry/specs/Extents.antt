-- Places that are told together: successive bytes, or a place alone (own profile).
use Rattle.std.specs.Prelude.{ℕ, ◌+◌, ◌-◌, Bool, false, ◌&&◌, nat_eq, nat_le, nat_lt, if◌then◌else◌, Option, Some, None, List, [], ◌∷◌, ◌++◌}
use Rattle.std.specs.Prelude.{codes, length, min}
use Rattle.std.specs.List.{slice_range}
use Rattle.s360_model.specs.Storage.{Storage}
use Rattle.s360_model.specs.Text.{hex_bytes, hex_text}
use Rattle.s360_store.specs.declared.place.Place.{Place}
use Rattle.s360_store.specs.declared.place.Place.TheVariants.{Byte}
use Rattle.s360_store.specs.Places.{same_place}
use Rattle.s360_store.specs.Spans.{byte_places}
use Rattle.s360_machine.specs.Machine.{Machine}
use Rattle.s360_language.specs.Names.{place_name}
use Rattle.s360_language.specs.Values.{value_words}
use Rattle.s360_inquiry.specs.declared.extent.Extent.{Extent}
use Rattle.s360_inquiry.specs.declared.extent.Extent.TheVariants.{Bytes, Place as Alone}

-- that of a place alone, the first place of one, the last, and all its places
abbrev pub extent_of : Place → Extent
extent_of (Byte at) = Bytes at at
extent_of place = Alone place

abbrev pub first_place : Extent → Place
first_place (Bytes first last) = Byte first
first_place (Alone place) = place

abbrev pub last_place : Extent → Place
last_place (Bytes first last) = Byte last
last_place (Alone place) = place

abbrev pub places_of_extent : Extent → List Place
places_of_extent (Bytes first last) = byte_places first (last + 1 - first)
places_of_extent (Alone place) = place ∷ []

-- a place is one of an extent
abbrev pub is_in : Extent → Place → Bool
is_in (Bytes first last) (Byte at) = nat_le first at && nat_le at last
is_in (Alone p) q = same_place p q
is_in extent q = false

-- both are one
abbrev pub same_extent : Extent → Extent → Bool
same_extent (Bytes first last) (Bytes begin end) = nat_eq first begin && nat_eq last end
same_extent (Alone p) (Alone q) = same_place p q
same_extent one other = false

-- a byte together with the run that begins behind it
abbrev pub extent_with : Place → Extent → Option Extent
extent_with (Byte at) (Bytes first last) = if nat_eq (at + 1) first then Some (Bytes at last) else None
extent_with place next = None

-- successive bytes together, in their order
abbrev pub put_before : Place → Option Extent → Extent → List Extent → List Extent
put_before place (Some together) next extents = together ∷ extents
put_before place None next extents = extent_of place ∷ (next ∷ extents)

abbrev pub with_run : Place → List Extent → List Extent
with_run place [] = extent_of place ∷ []
with_run place (next ∷ extents) = put_before place (extent_with place next) next extents

abbrev pub runs_of : List Place → List Extent
runs_of [] = []
runs_of (p ∷ ps) = with_run p (runs_of ps)

-- the name of an extent: of several bytes the first address and the last
abbrev pub extent_name : Extent → List ℕ
extent_name (Bytes first last) = place_name (Byte first) ++ (if nat_lt first last then codes "-" ++ hex_text 6 last else [])
extent_name (Alone place) = place_name place

-- its value, after a blank: of several bytes the first sixteen
abbrev pub bytes_shown : ℕ
bytes_shown = 16

abbrev pub run_words_of : Storage → ℕ → ℕ → List ℕ
run_words_of s first last =
    if nat_lt first (length s.bytes) then
    codes " " ++ hex_bytes (slice_range s.bytes first (min (min (last + 1) (first + bytes_shown)) (length s.bytes)))
    ++ (if nat_lt (first + bytes_shown) (last + 1) then codes ".." else [])
    else []

abbrev pub extent_words : Machine → Extent → List ℕ
extent_words m (Bytes first last) = run_words_of m.core.storage first last
extent_words m (Alone place) = value_words m place
