-- The line of a run: how many events are accepted, and why it ended.
use Rattle.std.specs.Prelude.{ℕ, List, [], ◌++◌, codes}
use Rattle.s360_model.specs.Text.{decimal}
use Rattle.s360_journal.specs.Running.{Run, run_of, stops_at}
use Rattle.s360_journal.specs.Standing.{Standing}
use Rattle.s360_journal.specs.declared.running.Pause.{Pause}
use Rattle.s360_journal.specs.declared.running.Pause.TheVariants.{Refused, Idle, Watch, Break, Stepped, RecordEnd, RecordStart, Done}
use Rattle.s360_journal.specs.declared.running.Reach.TheVariants.{Stop}
use Rattle.s360_language.specs.Names.{refused_text}

-- at most so many events, each the one whose turn it is, up to a breakpoint
abbrev pub run_at : List ℕ → Standing → ℕ → Run
run_at breaks s most = run_of (stops_at breaks) Stop s [] most

-- why a run ended, in a word; of a refusal its number and its name
abbrev pub end_text : Pause → List ℕ
end_text (Refused r) = refused_text r
end_text Idle = codes "idle\n"
end_text Watch = codes "watch\n"
end_text Break = codes "break\n"
end_text Stepped = codes "step\n"
end_text RecordEnd = codes "end of record\n"
end_text RecordStart = codes "start of record\n"
end_text Done = codes "done\n"

-- how many events are accepted, and why it ended
abbrev pub run_text : ℕ → Pause → List ℕ
run_text count why = codes "run " ++ decimal count ++ codes " " ++ end_text why
