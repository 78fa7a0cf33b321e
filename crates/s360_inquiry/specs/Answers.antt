-- What an inquiry is answered, and where the recording stands then (own profile). Each line of an answer is ended by one line
-- feed. No inquiry alters the record.
use Rattle.std.specs.Prelude.{ℕ, Bool, false, not, nat_eq, nat_lt, if◌then◌else◌, Option, Some, List, length}
use Rattle.s360_model.specs.Storage.{Storage}
use Rattle.s360_store.specs.declared.place.Place.{Place}
use Rattle.s360_store.specs.declared.place.Place.TheVariants.{Byte, Key}
use Rattle.s360_language.specs.declared.command.LineFault.TheVariants.{Argument}
use Rattle.s360_language.specs.declared.show_bytes.RowForm.TheVariants.{Signs}
use Rattle.s360_language.specs.ShownBytes.{storage_rows}
use Rattle.s360_debug.specs.Answers.{fault_text}
use Rattle.s360_journal.specs.Standing.{machine_of}
use Rattle.s360_journal.specs.Recorded.{Recorded, session_of, with_standing}
use Rattle.s360_inquiry.specs.declared.inquiry.Inquiry.{Inquiry}
use Rattle.s360_inquiry.specs.declared.inquiry.Inquiry.TheVariants.{Who, WhoItem, Why, Goto, Changes, Stores, Readers, Count, History, Visits, Jumps, Calls}
use Rattle.s360_inquiry.specs.declared.inquiry.Inquiry.TheVariants.{SupervisorCalls, Dump, DumpItem, Units, Where}
use Rattle.s360_inquiry.specs.Calls.{calls_text}
use Rattle.s360_inquiry.specs.Causes.{why_text}
use Rattle.s360_inquiry.specs.Changes.{changes_text, last_change_in, stands_after_who, who_text}
use Rattle.s360_inquiry.specs.Extents.{last_place}
use Rattle.s360_inquiry.specs.Counts.{count_text}
use Rattle.s360_inquiry.specs.Stores.{stores_text}
use Rattle.s360_inquiry.specs.Readers.{readers_text}
use Rattle.s360_inquiry.specs.Going.{goto_number, goto_text, stands_after_goto}
use Rattle.s360_inquiry.specs.Histories.{history_text}
use Rattle.s360_inquiry.specs.ItemChanges.{last_change_of_item, who_item_text, whole_item}
use Rattle.s360_inquiry.specs.Jumps.{jumps_text}
use Rattle.s360_inquiry.specs.Situations.{units_text, where_text}
use Rattle.s360_inquiry.specs.Visits.{supervisor_calls_text, visits_text}

-- a recording, and where it stood before the last line that went elsewhere, if one did
pub record Inquired : Type 0 where
  pub recorded : Recorded
  pub stood : Option ℕ

abbrev pub inquired : Recorded → Option ℕ → Inquired
inquired recorded stood = record { recorded = recorded; stood = stood }

-- a place that storage does not have is a wrong argument
abbrev pub is_outside : Storage → Place → Bool
is_outside s (Byte a) = not (nat_lt a (length s.bytes))
is_outside s (Key b) = not (nat_lt b (length s.keys))
is_outside s place = false

abbrev pub asks_outside : Storage → Inquiry → Bool
asks_outside s (Who place) = is_outside s place
asks_outside s (Why place depth detail) = is_outside s place
asks_outside s (Changes place most) = is_outside s place
asks_outside s (Stores extent most) = is_outside s (last_place extent)
asks_outside s (Readers extent most) = is_outside s (last_place extent)
asks_outside s (Count extent) = is_outside s (last_place extent)
asks_outside s inquiry = false

unfoldable pub told_answer : Inquired → Inquiry → List ℕ
told_answer i (Who place) = who_text i.recorded place (last_change_in i.recorded place)
told_answer i (WhoItem unit item) = who_item_text i.recorded unit item (last_change_of_item i.recorded unit item)
told_answer i (Why place depth detail) = why_text i.recorded place depth detail
told_answer i (Goto mark) = goto_text i.recorded (goto_number i.recorded i.stood mark)
told_answer i (Changes place most) = changes_text i.recorded place most
told_answer i (Stores extent most) = stores_text i.recorded extent most
told_answer i (Readers extent most) = readers_text i.recorded extent most
told_answer i (Count extent) = count_text i.recorded extent
told_answer i (History most) = history_text i.recorded most
told_answer i (Visits at most) = visits_text i.recorded at most
told_answer i (SupervisorCalls code most) = supervisor_calls_text i.recorded code most
told_answer i (Jumps most) = jumps_text i.recorded most
told_answer i Calls = calls_text i.recorded
told_answer i (Dump at count) = storage_rows Signs (machine_of (session_of i.recorded)).core.storage at count
told_answer i (DumpItem unit item) = whole_item (machine_of (session_of i.recorded)) unit item
told_answer i Units = units_text (machine_of (session_of i.recorded))
told_answer i Where = where_text i.recorded

abbrev pub asked_storage : Inquired → Storage
asked_storage i = (machine_of (session_of i.recorded)).core.storage

abbrev pub answer_to : Inquired → Inquiry → List ℕ
answer_to i inquiry = if asks_outside (asked_storage i) inquiry then fault_text (Argument 2) else told_answer i inquiry

-- how many changes stand then: `who` goes to just before the change that it tells, `goto` to its mark, and any other stays
unfoldable pub stands_after_told : Inquired → Inquiry → ℕ
stands_after_told i (Who place) = stands_after_who i.recorded (last_change_in i.recorded place)
stands_after_told i (WhoItem unit item) = stands_after_who i.recorded (last_change_of_item i.recorded unit item)
stands_after_told i (Goto mark) = stands_after_goto i.recorded (goto_number i.recorded i.stood mark)
stands_after_told i inquiry = i.recorded.standing

abbrev pub stands_after : Inquired → Inquiry → ℕ
stands_after i inquiry = if asks_outside (asked_storage i) inquiry then i.recorded.standing else stands_after_told i inquiry

-- a line that goes elsewhere leaves where it came from to `goto last`
abbrev pub gone_to : Inquired → ℕ → Inquired
gone_to i stands = record {
  recorded = with_standing i.recorded stands;
  stood = if nat_eq stands i.recorded.standing then i.stood else Some i.recorded.standing;
}

abbrev pub state_after : Inquired → Inquiry → Inquired
state_after i inquiry = gone_to i (stands_after i inquiry)
