-- What the 1403 printed, as a file in ASCII (own profile). A form feed leads to the first line of the next page, a line feed to
-- the next line, and a carriage return to the begin of the same line, on which another is printed.
use Rattle.std.specs.Prelude.{ℕ, ◌+◌, ◌-◌, ◌&&◌, nat_eq, nat_le, max, if◌then◌else◌, Option, Some, None, List, [], ◌∷◌, ◌++◌, length, map, replicate}
use Rattle.std.specs.Option.{option_map_or}
use Rattle.s360_device.specs.Items.{item_in}
use Rattle.s360_language.specs.ShownBytes.{sign_of, trimmed}
use Rattle.s360_print.specs.declared.paper.Record.{Record}
use Rattle.s360_saving.specs.declared.feeds.PageLine.{PageLine}

abbrev pub line_feeds : ℕ → List ℕ
line_feeds n = replicate n 0x0A

abbrev pub form_feeds : ℕ → List ℕ
form_feeds n = replicate n 0x0C

-- from the begin of a line to that of another, which stands further down the page, or on a page after it
abbrev pub motion : ℕ → ℕ → PageLine → List ℕ
motion page line to =
    if nat_eq page to.page && nat_le line to.line then line_feeds (to.line - line)
    else form_feeds (max (to.page - page) 1) ++ line_feeds (to.line - 1)

-- what parts a line from the one that was printed before it: it is printed over that, or on a line after it; nothing is printed
-- before the first, which is reached from line 1 of page 1
abbrev pub parting : Option PageLine → PageLine → List ℕ
parting None to = motion 1 1 to
parting (Some at) to =
    if nat_eq at.page to.page && nat_eq at.line to.line then 0x0D ∷ []
    else 0x0A ∷ motion at.page (at.line + 1) to

-- the last line is ended too
abbrev pub line_end : Option PageLine → List ℕ
line_end None = []
line_end (Some at) = 0x0A ∷ []

abbrev pub place_of : Record → PageLine
place_of r = record { page = r.page; line = r.line }

-- the signs of a line, without the blanks at its end
abbrev pub line_of_record : Record → List ℕ
line_of_record r = map sign_of (trimmed r.bytes)

-- the lines that were printed after one, if one was
abbrev pub pages_from : Option PageLine → List Record → List ℕ
pages_from before [] = line_end before
pages_from before (r ∷ rs) = (parting before (place_of r) ++ line_of_record r) ++ pages_from (Some (place_of r)) rs

abbrev pub pages_file : List Record → List ℕ
pages_file records = pages_from None records

-- the number of the page of the last line, 0 if there is none
abbrev pub page_count : List Record → ℕ
page_count records = option_map_or (λ r. r.page) (item_in records (length records)) 0
