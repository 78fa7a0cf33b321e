-- Signs, motions of the carriage, and commands of the printer and the console worked by hand, which the definitions
-- have to give.
use Rattle.std.specs.Prelude.{◌≡◌, true, false, ℕ, List, [], ◌∷◌, Some, None, replicate, refl}
use Rattle.s360_device.specs.declared.device.Begin.TheVariants.{Input, Output, Control, NotYet, Refused}
use Rattle.s360_device.specs.Commands.{command_of}
use Rattle.s360_device.specs.Sense.{no_sense, command_reject}
use Rattle.s360_device.specs.Rows.{begin_of, input_of, exception_of, after_command}
use Rattle.s360_print.specs.declared.carriage.CarriageMotion.TheVariants.{Space, Skip}
use Rattle.s360_print.specs.declared.paper.Record.{Record}
use Rattle.s360_print.specs.declared.typed_line.TypedItem.{TypedItem}
use Rattle.s360_print.specs.declared.typed_line.TypedItem.TheVariants.{Text, Return, Alarm}
use Rattle.s360_print.specs.Signs.{ascii_of, ebcdic_of}
use Rattle.s360_print.specs.Positions.{Position}
use Rattle.s360_print.specs.Carriage.{position_after, passes_end}
use Rattle.s360_print.specs.Printer.{Printer, new_printer, printer_table}
use Rattle.s360_print.specs.Console.{Console, new_console, console_table, with_line}

-- C1 is A, 5A is an exclamation mark, 4F the bar; 4A has no sign, and nor has the tilde
pub letter : ascii_of 0xC1 ≡ Some 0x41
letter = refl

pub exclamation_mark : ascii_of 0x5A ≡ Some 0x21
exclamation_mark = refl

pub bar : ebcdic_of 0x7C ≡ Some 0x4F
bar = refl

pub last_digit : ebcdic_of 0x39 ≡ Some 0xF9
last_digit = refl

pub no_sign : ascii_of 0x4A ≡ None
no_sign = refl

pub tilde : ebcdic_of 0x7E ≡ None
tilde = refl

abbrev place : ℕ → ℕ → Position
place page line = record { page = page; line = line }

-- two lines from line 65, past the page's end, and from the last page to the first
pub spaces_over_the_end : position_after (place 1 65) (Space 2) ≡ place 2 1
spaces_over_the_end = refl

pub last_page_is_followed_by_the_first : position_after (place 4294967295 66) (Space 1) ≡ place 1 1
last_page_is_followed_by_the_first = refl

-- a skip to channel 2, which is at line 6, from above it and from the line itself
pub skip_on_the_page : position_after (place 1 5) (Skip 2) ≡ place 1 6
skip_on_the_page = refl

pub skip_to_the_next_page : position_after (place 1 6) (Skip 2) ≡ place 2 6
skip_to_the_next_page = refl

-- a space from line 53 passes line 56 if it is of three lines; from line 56 on none does
pub space_to_line_56 : passes_end (place 1 53) (Space 3) ≡ true
space_to_line_56 = refl

pub space_to_line_55 : passes_end (place 1 53) (Space 2) ≡ false
space_to_line_55 = refl

pub space_from_line_56 : passes_end (place 1 56) (Space 1) ≡ false
space_from_line_56 = refl

-- a printer of these lines at this position
abbrev printer : List Record → Position → Printer
printer records position = record { sense = no_sense; media = record { records = records; position = position } }

-- a line of one sign, C1
abbrev line_of_one : ℕ → ℕ → Record
line_of_one page line = record { page = page; line = line; bytes = 0xC1 ∷ replicate 131 0x40 }

-- 89 on a new printer: it prints on line 1 of page 1, and skips to channel 1, line 1 of page 2
pub print_begins : begin_of printer_table new_printer (command_of 0x89) ≡ Output 132
print_begins = refl

pub print_and_skip : after_command printer_table new_printer (command_of 0x89) (0xC1 ∷ []) ≡ printer (line_of_one 1 1 ∷ []) (place 2 1)
print_and_skip = refl

-- 09 on line 55: it prints there and goes to line 56, with unit exception
pub print_and_space : after_command printer_table (printer [] (place 1 55)) (command_of 0x09) (0xC1 ∷ []) ≡ printer (line_of_one 1 55 ∷ []) (place 1 56)
print_and_space = refl

pub print_at_the_end : exception_of printer_table (printer [] (place 1 55)) (command_of 0x09) ≡ true
print_at_the_end = refl

-- 8B on a new printer: it goes to line 1 of page 2 and prints nothing
pub skip_begins : begin_of printer_table new_printer (command_of 0x8B) ≡ Control
skip_begins = refl

pub skip_alone : after_command printer_table new_printer (command_of 0x8B) [] ≡ printer [] (place 2 1)
skip_alone = refl

-- E3 goes to line 56, without unit exception
pub skip_to_line_56 : after_command printer_table new_printer (command_of 0xE3) [] ≡ printer [] (place 1 56)
skip_to_line_56 = refl

pub no_exception_of_a_skip : exception_of printer_table new_printer (command_of 0xE3) ≡ false
no_exception_of_a_skip = refl

-- a code that the printer does not have
pub printer_has_no_read : after_command printer_table new_printer (command_of 0x02) [] ≡ record { sense = command_reject; media = new_printer.media }
printer_has_no_read = refl

-- a console of these items and lines, of which so many were taken
abbrev console : List TypedItem → List (List ℕ) → ℕ → Console
console typed entered taken = record { sense = no_sense; media = record { typed = typed; entered = entered; taken = taken } }

-- 01, 09 and 0B type
pub types : after_command console_table new_console (command_of 0x01) (0xC8 ∷ 0xC9 ∷ []) ≡ console (Text (0xC8 ∷ 0xC9 ∷ []) ∷ []) [] 0
types = refl

pub types_and_returns : after_command console_table new_console (command_of 0x09) (0xC8 ∷ []) ≡ console (Return (0xC8 ∷ []) ∷ []) [] 0
types_and_returns = refl

pub alarm_begins : begin_of console_table new_console (command_of 0x0B) ≡ Control
alarm_begins = refl

pub sounds_the_alarm : after_command console_table new_console (command_of 0x0B) [] ≡ console (Alarm ∷ []) [] 0
sounds_the_alarm = refl

-- 0A waits for a line, and then takes the first one that was not taken
pub waits : begin_of console_table new_console (command_of 0x0A) ≡ NotYet
waits = refl

pub enters : with_line (with_line new_console.media (0xC1 ∷ [])) [] ≡ (console [] ((0xC1 ∷ []) ∷ [] ∷ []) 0).media
enters = refl

pub reads_the_first : input_of console_table (console [] ((0xC1 ∷ []) ∷ [] ∷ []) 0) (command_of 0x0A) ≡ 0xC1 ∷ []
reads_the_first = refl

pub takes_the_first : after_command console_table (console [] ((0xC1 ∷ []) ∷ [] ∷ []) 0) (command_of 0x0A) [] ≡ console [] ((0xC1 ∷ []) ∷ [] ∷ []) 1
takes_the_first = refl

-- the second one is empty
pub reads_the_second : begin_of console_table (console [] ((0xC1 ∷ []) ∷ [] ∷ []) 1) (command_of 0x0A) ≡ Input 0
reads_the_second = refl

pub console_has_no_skip : begin_of console_table new_console (command_of 0x8B) ≡ Refused command_reject
console_has_no_skip = refl
