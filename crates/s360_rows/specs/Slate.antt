-- A device of the tests, a slate: it gives its line where it has one, has no answer yet where it has none, and keeps
-- each line that is written on it (kept).
use Rattle.std.specs.Prelude.{ℕ, ◌-◌, Bool, false, List, [], ◌∷◌, ◌++◌, length, nat_eq, if◌then◌else◌, replicate}
use Rattle.std.proofs.Common.{ap}
use Rattle.s360_device.specs.declared.motion.Motion.{Motion}
use Rattle.s360_device.specs.Kinds.{Kind, RestoresBoth}
use Rattle.s360_device.specs.Motions.{CanMove, after_motion, items_put, motion_back}
use Rattle.s360_device.specs.MotionLaws.{CanMove-again, after_motion-twice, motion_back-twice}
use Rattle.s360_device.specs.Rows.{Row, Table, refused, not_yet, input, output}
use Rattle.s360_device.specs.Sense.{command_reject}

-- whether a line was put on it that was not read, and the lines written
pub record SlateMedia : Type 0 where
  pub has_line : Bool
  pub written : List (List ℕ)

-- its line, always the same
abbrev pub line : List ℕ
line = 1 ∷ 2 ∷ 3 ∷ 4 ∷ 5 ∷ 6 ∷ 7 ∷ 8 ∷ 9 ∷ 10 ∷ 11 ∷ 12 ∷ []

-- a line with these bytes, and zeros after them
abbrev pub line_of : List ℕ → List ℕ
line_of bytes = bytes ++ replicate (12 - length bytes) 0

-- the slate after a line with these bytes was written on it, and after its own line was read
abbrev pub after_writing : SlateMedia → List ℕ → SlateMedia
after_writing s bytes = record s { written = s.written ++ line_of bytes ∷ [] }

abbrev pub after_reading : SlateMedia → SlateMedia
after_reading s = record s { has_line = false }

abbrev pub slate_row : SlateMedia → ℕ → Row SlateMedia
slate_row s code =
    if nat_eq code 0x01 then output 12 (after_writing s) false
    else (if nat_eq code 0x02 then (if s.has_line then input line (after_reading s) false else not_yet) else refused command_reject)

abbrev pub slate_table : Table SlateMedia
slate_table = record { rows = slate_row; sense_bytes = 1 }

-- whether it has a line afterwards, and what happens to the lines written
abbrev pub SlateChange : Type 0
SlateChange = Bool × Motion (List ℕ)

abbrev pub slate_kind : Kind SlateMedia SlateMedia SlateChange
slate_kind = record {
  see = λ s. s;
  table = slate_table;
  can = λ s x. CanMove s.written x.1;
  after = λ s x. record { has_line = x.0; written = after_motion s.written x.1 };
  back = λ s x. (s.has_line, motion_back s.written x.1);
  needs = λ x. items_put x.1;
}

-- the exchange with a change, done twice
pub slate_change_restores_both : RestoresBoth slate_kind
slate_change_restores_both = record {
  again = λ s x can. CanMove-again s.written x.1 can;
  media = λ s x can. ap (λ (written : List (List ℕ)). record s { written = written }) (after_motion-twice s.written x.1 can);
  change = λ s x can. ap (λ (m : Motion (List ℕ)). (x.0, m)) (motion_back-twice s.written x.1 can);
}
