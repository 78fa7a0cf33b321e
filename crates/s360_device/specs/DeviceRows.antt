-- What the code says of a row, by the row of the table (kept).
use Rattle.std.specs.Prelude.{◌≡◌, ℕ, Bool, true, false, List, Option, reverse}
use Rattle.s360_device.specs.declared.row.Given.{Given}
use Rattle.s360_device.specs.declared.row.Row.{Row as Said}
use Rattle.s360_device.specs.declared.row.Row.TheVariants.{Refused, NotYet, Input, Output, Control}
use Rattle.s360_device.specs.Kinds.{Kind, MakesMedia}
use Rattle.s360_device.specs.Rows.{Row, media_written, refused, not_yet, input, output, control}

-- bytes in the direction in which they are read
abbrev pub in_direction : Bool → List ℕ → List ℕ
in_direction false bytes = bytes
in_direction true bytes = reverse bytes

abbrev pub bytes_given : Given → List ℕ
bytes_given g = in_direction g.backward g.bytes.now

abbrev pub IsRow : {S M C : Type 0} → Kind S M C → S → Row M → Said C → Type 0
IsRow k s row (Refused sense) = row ≡ refused sense
IsRow k s row NotYet = row ≡ not_yet
IsRow {M = M} k s row (Input change exception) = (bytes : List ℕ) × ((media : M) × ((row ≡ input bytes media exception) × MakesMedia k s media change))
IsRow {M = M} k s row (Output limit exception) = (written : List ℕ → M) × (row ≡ output limit written exception)
IsRow {M = M} k s row (Control change exception) = (media : M) × ((row ≡ control media exception) × MakesMedia k s media change)

-- what an output does that ends with these bytes; any other command writes nothing
abbrev pub WritesMedia : {S M C : Type 0} → Kind S M C → S → ℕ → List ℕ → Option C → Type 0
WritesMedia k s code bytes change = MakesMedia k s (media_written (k.see s) (k.table.rows (k.see s) code) bytes) change
