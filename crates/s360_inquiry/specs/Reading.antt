-- The lines of an inquiry (own profile). Their arguments are those of the script language.
use Rattle.std.specs.Prelude.{ℕ, ◌+◌, nat_eq, nat_le, if◌then◌else◌, Option, Some, None, Result, List, [], ◌∷◌, codes, drop, take}
use Rattle.std.specs.List.{position}
use Rattle.std.specs.Option.{option_map, option_or}
use Rattle.s360_word.specs.declared.unit.Unit.{Unit}
use Rattle.s360_language.specs.declared.command.LineFault.{LineFault}
use Rattle.s360_language.specs.Digits.{count_of, hex_number}
use Rattle.s360_language.specs.Lines.{Form, Line, if_known, if_word, judged, line, makes, may_take, one, one_of, part, takes, two}
use Rattle.s360_language.specs.Reading.{address, most_count, places, unit}
use Rattle.s360_inquiry.specs.Causes.{most_depth}
use Rattle.s360_inquiry.specs.Changes.{most_told}
use Rattle.s360_inquiry.specs.Extents.{extent_of}
use Rattle.s360_inquiry.specs.declared.extent.Extent.{Extent}
use Rattle.s360_inquiry.specs.declared.extent.Extent.TheVariants.{Bytes}
use Rattle.s360_inquiry.specs.declared.inquiry.Detail.TheVariants.{Brief, Full}
use Rattle.s360_inquiry.specs.declared.inquiry.Inquiry.{Inquiry}
use Rattle.s360_inquiry.specs.declared.inquiry.Inquiry.TheVariants.{Who, WhoItem, Why, Goto, Changes, Stores, Readers, Count, History, Visits, Jumps, Calls}
use Rattle.s360_inquiry.specs.declared.inquiry.Inquiry.TheVariants.{SupervisorCalls, Dump, DumpItem, Units, Where}
use Rattle.s360_inquiry.specs.declared.inquiry.Mark.{Mark}
use Rattle.s360_inquiry.specs.declared.inquiry.Mark.TheVariants.{Change, Start, End, Last}

abbrev pub Asked : Type 0
Asked = Result Inquiry LineFault

-- so many changes are told where no number is given; and so many bytes has the greatest storage
abbrev pub changes_told : ℕ
changes_told = 10

abbrev pub most_dumped : ℕ
most_dumped = 1048576

-- so deep is a chain of causes followed where no depth is given, and at most so deep
abbrev pub depth_told : ℕ
depth_told = 5

-- where to go: `start`, `end`, `last` or the number of a change
abbrev pub mark_of : List ℕ → Option Mark
mark_of word =
    option_or (one_of ((codes "start", Start) ∷ (codes "end", End) ∷ (codes "last", Last) ∷ []) word)
    (option_map (λ number. Change number) (count_of most_count word))

-- an item of a unit's media, behind `m`, or something else
abbrev pub item_or : (Unit → ℕ → Inquiry) → Form Inquiry → Form Inquiry
item_or asks other = if_word (codes "m") (two unit (count_of most_count) asks) other

-- the bytes of one address, or from one to another that is not lower, as `388-38B`
abbrev pub bytes_between : ℕ → ℕ → Option Extent
bytes_between first last = if nat_le first last then Some (Bytes first last) else None

abbrev pub between_both : Option ℕ → Option ℕ → Option Extent
between_both (Some first) (Some last) = bytes_between first last
between_both first last = None

abbrev pub bytes_from_to : List ℕ → List ℕ → Option Extent
bytes_from_to first last = between_both (address first) (address last)

abbrev pub bytes_from : List ℕ → Option ℕ → Option Extent
bytes_from word None = bytes_from_to word word
bytes_from word (Some dash) = bytes_from_to (take dash word) (drop (dash + 1) word)

abbrev pub bytes_of : List ℕ → Option Extent
bytes_of word = bytes_from word (position (λ b. nat_eq b 45) word)

-- bytes of storage or another place, and what the words behind them say
abbrev pub extent_then : (Extent → Form Inquiry) → Form Inquiry
extent_then next = if_word (codes "s") (takes bytes_of next) (part places (λ place. next (extent_of place)))

-- a supervisor call's code behind `svc`, or something else
abbrev pub call_code : List ℕ → Option ℕ
call_code word = hex_number 2 word

abbrev pub call_or : Form Inquiry → Form Inquiry
call_or other =
    if_word (codes "svc") (takes call_code (λ code. may_take (count_of most_told) changes_told (λ most. makes (SupervisorCalls code most)))) other

abbrev pub inquiries : List (Line Inquiry)
inquiries =
    line (codes "who") (item_or (λ u n. WhoItem u n) (part places (λ place. makes (Who place)))) ∷
    line (codes "why") (part places (λ place. may_take (count_of most_depth) depth_told (λ depth. makes (Why place depth Brief)))) ∷
    line (codes "why!") (part places (λ place. may_take (count_of most_depth) depth_told (λ depth. makes (Why place depth Full)))) ∷
    line (codes "goto") (one mark_of (λ mark. Goto mark)) ∷
    line (codes "changes") (part places (λ place. may_take (count_of most_count) changes_told (λ most. makes (Changes place most)))) ∷
    line (codes "stores") (extent_then (λ extent. may_take (count_of most_told) changes_told (λ most. makes (Stores extent most)))) ∷
    line (codes "readers") (extent_then (λ extent. may_take (count_of most_told) changes_told (λ most. makes (Readers extent most)))) ∷
    line (codes "uses") (extent_then (λ extent. may_take (count_of most_told) changes_told (λ most. makes (Readers extent most)))) ∷
    line (codes "count") (extent_then (λ extent. makes (Count extent))) ∷
    line (codes "history") (may_take (count_of most_count) changes_told (λ most. makes (History most))) ∷
    line (codes "visits") (call_or (takes address (λ at. may_take (count_of most_told) changes_told (λ most. makes (Visits at most))))) ∷
    line (codes "jumps") (may_take (count_of most_told) changes_told (λ most. makes (Jumps most))) ∷
    line (codes "calls") (makes Calls) ∷
    line (codes "dump") (item_or (λ u n. DumpItem u n) (two address (count_of most_dumped) (λ at count. Dump at count))) ∷
    line (codes "units") (makes Units) ∷
    line (codes "where") (makes Where) ∷
    []

unfoldable pub inquiry_of : List ℕ → Option Asked
inquiry_of bytes = if_known (judged inquiries bytes)
