-- What a command is to a device: the row of a table (GA22-6821, "Input/Output Operations", for how commands begin
-- and end; what they do to the sense bytes is the own profile). M is what the device has beside its sense bytes:
-- its media, and the marks and keys that belong to them.
use Rattle.std.specs.Prelude.{ℕ, Bool, false, List, [], take, length}
use Rattle.s360_device.specs.declared.device.Begin.{Begin}
use Rattle.s360_device.specs.declared.device.Begin.TheVariants.{Input, Output, Control, NotYet, Refused}
use Rattle.s360_device.specs.declared.device_with.DeviceWith.{DeviceWith}
use Rattle.s360_device.specs.declared.command_code.CommandCode.{CommandCode}
use Rattle.s360_device.specs.declared.command_code.CommandCode.TheVariants.{NoOperation, Sense, Own}
use Rattle.s360_device.specs.Sense.{no_sense}

-- a command of a device's own, as the device stands
pub data Row (M : Type 0) : Type 0 where
  -- refused, with these sense bytes
  refused : List ℕ → Row M
  -- not answered yet
  not_yet : Row M
  -- gives these bytes; the media afterwards, and whether there is unit exception
  input : List ℕ → M → Bool → Row M
  -- takes at most so many bytes; the media afterwards by the bytes, and whether there is unit exception
  output : ℕ → (List ℕ → M) → Bool → Row M
  -- moves no byte; the media afterwards, and whether there is unit exception
  control : M → Bool → Row M

abbrev pub row_begin : {M : Type 0} → Row M → Begin
row_begin (refused sense) = Refused sense
row_begin not_yet = NotYet
row_begin (input bytes media exception) = Input (length bytes)
row_begin (output limit media exception) = Output limit
row_begin (control media exception) = Control

abbrev pub row_input : {M : Type 0} → Row M → List ℕ
row_input (input bytes media exception) = bytes
row_input row = []

abbrev pub row_exception : {M : Type 0} → Row M → Bool
row_exception (input bytes media exception) = exception
row_exception (output limit media exception) = exception
row_exception (control media exception) = exception
row_exception row = false

-- the device afterwards: a command of its own that is refused sets the sense bytes and leaves the media, and
-- any other clears the sense bytes
abbrev pub sense_after_row : {M : Type 0} → List ℕ → Row M → List ℕ
sense_after_row before (refused sense) = sense
sense_after_row before not_yet = before
sense_after_row before row = no_sense

abbrev pub media_after_row : {M : Type 0} → M → Row M → List ℕ → M
media_after_row before (input given media exception) bytes = media
media_after_row before (output limit media exception) bytes = media bytes
media_after_row before (control media exception) bytes = media
media_after_row before row bytes = before

-- the media after it where it is an output with these bytes; any other command writes nothing
abbrev pub media_written : {M : Type 0} → M → Row M → List ℕ → M
media_written before (output limit media exception) bytes = media bytes
media_written before row bytes = before

abbrev pub after_row : {M : Type 0} → DeviceWith M → Row M → List ℕ → DeviceWith M
after_row d row bytes = record { sense = sense_after_row d.sense row; media = media_after_row d.media row bytes }

-- Every device has two commands more, which change nothing, not the sense bytes either: no-operation is a control,
-- and sense gives the first of the sense bytes, so many as the device has.

-- the rows of a device's own commands by their codes, and how many sense bytes it has
pub record Table (M : Type 0) : Type 0 where
  pub rows : M → ℕ → Row M
  pub sense_bytes : ℕ

-- how a command begins
abbrev pub begin_of : {M : Type 0} → Table M → DeviceWith M → CommandCode → Begin
begin_of t d NoOperation = Control
begin_of t d Sense = Input t.sense_bytes
begin_of t d (Own code) = row_begin (t.rows d.media code)

-- the bytes that it gives
abbrev pub input_of : {M : Type 0} → Table M → DeviceWith M → CommandCode → List ℕ
input_of t d NoOperation = []
input_of t d Sense = take t.sense_bytes d.sense
input_of t d (Own code) = row_input (t.rows d.media code)

-- whether it gives unit exception
abbrev pub exception_of : {M : Type 0} → Table M → DeviceWith M → CommandCode → Bool
exception_of t d (Own code) = row_exception (t.rows d.media code)
exception_of t d command = false

-- the device after it, with these bytes of output
abbrev pub after_command : {M : Type 0} → Table M → DeviceWith M → CommandCode → List ℕ → DeviceWith M
after_command t d (Own code) bytes = after_row d (t.rows d.media code) bytes
after_command t d command bytes = d
