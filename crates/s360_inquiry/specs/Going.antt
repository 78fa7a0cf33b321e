-- To go elsewhere in what was recorded (own profile). The record stays as it is.
use Rattle.std.specs.Prelude.{ℕ, nat_le, if◌then◌else◌, Option, Some, None, List, ◌++◌, codes, length}
use Rattle.s360_text.specs.Counts.{counted}
use Rattle.s360_journal.specs.Recorded.{Recorded, with_standing}
use Rattle.s360_inquiry.specs.declared.inquiry.Mark.{Mark}
use Rattle.s360_inquiry.specs.declared.inquiry.Mark.TheVariants.{Change, Start, End, Last}

-- the number of the change that a mark names, in a record of so many events; where one stood before may be nowhere
abbrev pub number_of_mark : Mark → ℕ → Option ℕ → Option ℕ
number_of_mark (Change number) recorded stood = Some number
number_of_mark Start recorded stood = Some 0
number_of_mark End recorded stood = Some recorded
number_of_mark Last recorded stood = stood

-- a number that the record has
abbrev pub number_within : ℕ → Option ℕ → Option ℕ
number_within recorded None = None
number_within recorded (Some number) = if nat_le number recorded then Some number else None

-- to which change a mark leads, if to one
abbrev pub goto_number : Recorded → Option ℕ → Mark → Option ℕ
goto_number r stood mark = number_within (length r.events) (number_of_mark mark (length r.events) stood)

-- how many changes stand, of how many that are recorded
abbrev pub stands_line : Recorded → List ℕ
stands_line r = counted (codes "standing ") r.standing ++ counted (codes " of ") (length r.events) ++ codes "\n"

-- how many stand then, and what is answered
abbrev pub stands_after_goto : Recorded → Option ℕ → ℕ
stands_after_goto r None = r.standing
stands_after_goto r (Some number) = number

abbrev pub goto_text : Recorded → Option ℕ → List ℕ
goto_text r None = codes "no such change" ++ codes "\n"
goto_text r (Some number) = stands_line (with_standing r number)
