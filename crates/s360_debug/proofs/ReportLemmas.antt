-- The text of an accepted event.
use Rattle.std.proofs.Common.{◌≡◌, ◌+◌, ◌∙◌, ℕ, List, [], ◌∷◌, length, refl, ap, None}
use Rattle.s360_store.specs.declared.place.Place.{Place}
use Rattle.s360_machine.specs.declared.event.Event.{Event}
use Rattle.s360_journal.specs.declared.report.Report.{Report}
use Rattle.s360_journal.specs.declared.report.Report.TheVariants.{Changed, Idle}
use Rattle.s360_journal.specs.Reports.{IsReport}
use Rattle.s360_journal.specs.Standing.{Standing, refusal_in, alteration}
use Rattle.s360_debug.specs.Answers.{report_text, text_of_event, text_of_report}

report-text : (number : ℕ) (report : Report) (ps : List Place) → IsReport report ps → text_of_report number report ≡ report_text number ps
report-text number Idle ps h = rw h refl
report-text number (Changed qs) [] h = absurd (h.0 refl)
report-text number (Changed qs) (p ∷ ps) h = rw h.1 refl

pub accepted-text : (s : Standing) (e : Event) (report : Report) (number : ℕ) → refusal_in s e ≡ None → IsReport report (alteration s e) → number ≡ length s.events + 1
    → text_of_report number report ≡ text_of_event s e
accepted-text s e report number none is count =
    report-text number report (alteration s e) is ∙ ap (λ n. report_text n (alteration s e)) count ∙ rw none refl
