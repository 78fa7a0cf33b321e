-- The decks and tapes that a command line asks for (own profile).
use Rattle.std.specs.Prelude.{◌≡◌, None, []}
use Rattle.s360_tape.specs.Tape.{Tape, new_tape}
use Rattle.s360_setup.specs.declared.arguments.TapeOptions.{TapeOptions}

-- a tape at its load point, protected where that is asked for, and blank where no file is named
pub record IsTapeFor (options : TapeOptions) (tape : Tape) : Type 0 where
  pub new : tape ≡ new_tape tape.media.items options.protected
  pub blank : options.file ≡ None → tape.media.items ≡ []
