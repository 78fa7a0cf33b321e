-- Where the carriage of the 1403 stands, by page and line.
use Rattle.std.specs.Prelude.{ℕ, ◌+◌, nat_eq, nat_lt, if◌then◌else◌}

-- a page and a line of it, both counted from 1
pub record Position : Type 0 where
  pub page : ℕ
  pub line : ℕ

-- lines of a page (own profile)
abbrev pub lines_of_page : ℕ
lines_of_page = 66

-- the last number of a page, after which comes page 1 (own profile)
abbrev pub last_page : ℕ
last_page = 4294967295

-- where a new printer stands
abbrev pub first_position : Position
first_position = record { page = 1; line = 1 }

-- the number of the page after a page
abbrev pub page_after : ℕ → ℕ
page_after page = if nat_eq page last_page then 1 else page + 1

-- the next line: after the last one of a page it is the first one of the page after it
abbrev pub line_after : Position → Position
line_after p = if nat_lt p.line lines_of_page then record p { line = p.line + 1 } else record { page = page_after p.page; line = 1 }
