-- Which interruption comes first, worked by hand, which the definitions have to give.
use Rattle.std.specs.Prelude.{◌≡◌, true, false, Some, None, refl}
use Rattle.s360_word.specs.declared.unit.Unit.{Unit}
use Rattle.s360_psw.specs.declared.class.Class.TheVariants.{External, InputOutput}
use Rattle.s360_psw.specs.declared.pending.Pending.{Pending}
use Rattle.s360_psw.specs.Pending.{next_interruption_of}

abbrev reader : Unit
reader = record { 0 = 0x00C }

abbrev tape : Unit
tape = record { 0 = 0x180 }

-- the timer with all masks one, and with all but the external one; nothing is pending
abbrev timer_and_reader : Pending
timer_and_reader = record { timer = true; key = false; channel0 = Some reader; channel1 = None }

external_first : next_interruption_of 0xFF00_0000_0000_0200 timer_and_reader ≡ Some External
external_first = refl

external_masked : next_interruption_of 0xFE00_0000_0000_0200 timer_and_reader ≡ Some InputOutput
external_masked = refl

all_masked : next_interruption_of 0x0004_0000_0000_0200 timer_and_reader ≡ None
all_masked = refl

-- the mask of channel 1 is bit 1
abbrev tape_alone : Pending
tape_alone = record { timer = false; key = false; channel0 = None; channel1 = Some tape }

channel_1 : next_interruption_of 0x4000_0000_0000_0200 tape_alone ≡ Some InputOutput
channel_1 = refl

channel_1_masked : next_interruption_of 0xBF00_0000_0000_0200 tape_alone ≡ None
channel_1_masked = refl

key : next_interruption_of 0x0100_0000_0000_0200 (record { timer = false; key = true; channel0 = None; channel1 = None }) ≡ Some External
key = refl
