-- The last changes that stand, of any place (own profile): each is told by its number, its event and the places that it
-- altered, as a report tells them.
use Rattle.std.specs.Prelude.{ℕ, ◌+◌, ◌-◌, nat_eq, if◌then◌else◌, List, [], ◌∷◌, ◌++◌, codes}
use Rattle.std.specs.List.{flat_map, range_with_len}
use Rattle.std.specs.Option.{option_map_or}
use Rattle.s360_store.specs.declared.place.Place.{Place}
use Rattle.s360_journal.specs.declared.report.Report.{Report}
use Rattle.s360_journal.specs.declared.report.Report.TheVariants.{Changed, Idle}
use Rattle.s360_journal.specs.Standing.{alteration}
use Rattle.s360_journal.specs.Recorded.{Recorded, next_recorded, session_of, with_standing}
use Rattle.s360_debug.specs.Answers.{changed_after}
use Rattle.s360_inquiry.specs.Changes.{words_of_change}

-- the places that were altered, if any were
abbrev pub places_words : List Place → List ℕ
places_words [] = codes " idle\n"
places_words (p ∷ ps) = changed_after [] (p ∷ ps) ++ codes "\n"

-- what a report tells of them
abbrev pub report_words : Report → List ℕ
report_words Idle = codes " idle\n"
report_words (Changed ps) = changed_after [] ps ++ codes "\n"

-- the places that the next event alters
abbrev pub altered_next : Recorded → List Place
altered_next r = option_map_or (λ e. alteration (session_of r) e) (next_recorded r) []

-- the line of the change of a number: its event is the next where those before it stand
abbrev pub history_line : Recorded → ℕ → List ℕ
history_line r number = words_of_change r number ++ places_words (altered_next (with_standing r (number - 1)))

-- so many of the last ones at most, the oldest first
abbrev pub lines_from : Recorded → ℕ → ℕ → List ℕ
lines_from r first count = flat_map (λ before. history_line r (before + 1)) (range_with_len first count)

abbrev pub history_text : Recorded → ℕ → List ℕ
history_text r most =
    if nat_eq r.standing 0 then codes "history none" ++ codes "\n"
    else lines_from r (r.standing - most) (r.standing - (r.standing - most))
