-- What a line that saves is answered (own profile).
use Rattle.std.specs.Prelude.{ℕ, ⊤, nat_eq, if◌then◌else◌, Result, Ok, Err, List, [], ◌++◌, codes}
use Rattle.s360_text.specs.Counts.{counted}
use Rattle.s360_saving.specs.declared.file.Amount.{Amount}
use Rattle.s360_saving.specs.declared.file.Amount.TheVariants.{Pages, Cards, Lines, Bytes}
use Rattle.s360_saving.specs.declared.outcome.SaveFault.{SaveFault}
use Rattle.s360_saving.specs.declared.outcome.SaveFault.TheVariants.{Exists, CannotOpen, WriteFailed}

-- so many of a kind were saved
abbrev pub saved_count : ℕ → List ℕ → List ℕ
saved_count n kind = counted (codes "saved ") n ++ codes " " ++ kind ++ (if nat_eq n 1 then [] else codes "s")

abbrev pub amount_text : Amount → List ℕ
amount_text (Pages n) = saved_count n (codes "page")
amount_text (Cards n) = saved_count n (codes "card")
amount_text (Lines n) = saved_count n (codes "line")
amount_text (Bytes n) = saved_count n (codes "byte")

abbrev pub fault_name : SaveFault → List ℕ
fault_name Exists = codes "file exists"
fault_name CannotOpen = codes "cannot open"
fault_name WriteFailed = codes "write failed"

-- how much was saved, or why the file was not written
abbrev pub outcome_text : Amount → Result ⊤ SaveFault → List ℕ
outcome_text amount (Ok done) = amount_text amount ++ codes "\n"
outcome_text amount (Err fault) = codes "not saved: " ++ fault_name fault ++ codes "\n"
