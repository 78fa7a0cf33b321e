-- What a report says: the places at which the machines before and after the event differ.
use Rattle.std.specs.Prelude.{◌≡◌, ◌≢◌, List, []}
use Rattle.s360_store.specs.declared.place.Place.{Place}
use Rattle.s360_journal.specs.declared.report.Report.{Report}
use Rattle.s360_journal.specs.declared.report.Report.TheVariants.{Changed, Idle}

-- idle just where there are none
abbrev pub IsReport : Report → List Place → Type 0
IsReport Idle ps = ps ≡ []
IsReport (Changed qs) ps = (ps ≢ []) × (qs ≡ ps)
