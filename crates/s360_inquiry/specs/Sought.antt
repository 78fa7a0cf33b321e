-- Which changes are sought (own profile).
use Rattle.std.specs.Prelude.{ℕ, Bool, List}
use Rattle.s360_journal.specs.Recorded.{Recorded}
use Rattle.s360_inquiry.specs.declared.search.Sought.{Sought}
use Rattle.s360_inquiry.specs.declared.search.Sought.TheVariants.{Visits, Jumps, CodeSettings, Interruptions, SupervisorCalls, Stores, Readers}
use Rattle.s360_inquiry.specs.CodeSettings.{sets_code}
use Rattle.s360_inquiry.specs.Interruptions.{calls_supervisor, interrupts}
use Rattle.s360_inquiry.specs.Jumps.{is_jump}
use Rattle.s360_inquiry.specs.Readers.{reads_from}
use Rattle.s360_inquiry.specs.Searches.{never, numbers_since}
use Rattle.s360_inquiry.specs.Stores.{stores_into}
use Rattle.s360_inquiry.specs.Visits.{is_visit}

-- the change of a number is sought
abbrev pub is_sought : Sought → Recorded → ℕ → Bool
is_sought (Visits at) r number = is_visit at r number
is_sought Jumps r number = is_jump r number
is_sought CodeSettings r number = sets_code r number
is_sought Interruptions r number = interrupts r number
is_sought (SupervisorCalls code) r number = calls_supervisor code r number
is_sought (Stores extent) r number = stores_into extent r number
is_sought (Readers extent) r number = reads_from extent r number

-- the search ends there: a store ends that of readers, and nothing any other
abbrev pub ends : Sought → Recorded → ℕ → Bool
ends (Readers extent) r = stores_into extent r
ends sought r = never

-- the numbers of the standing changes that are sought
abbrev pub numbers_sought : Sought → Recorded → List ℕ
numbers_sought sought r = numbers_since (ends sought r) (is_sought sought r) r.standing
