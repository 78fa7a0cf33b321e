-- The channel address word, command word and status word (GA22-6821, "Input/Output Operations"). Bits are numbered from 0 at the left.
use Rattle.std.specs.Prelude.{ℕ, ◌+◌, ◌*◌, ◌/◌, ◌%◌, ◌^◌, Bool, true, ◌&&◌, nat_eq, if◌then◌else◌}
use Rattle.s360_channel.specs.declared.{caw.Caw.Caw, ccw.Ccw.Ccw, ccw.CcwFlags.CcwFlags}
use Rattle.s360_channel.specs.declared.csw.{Csw.Csw, UnitStatus.UnitStatus, ChannelStatus.ChannelStatus}

-- what a bit counts that is one or zero
abbrev pub weight_of : Bool → ℕ → ℕ
weight_of one weight = if one then weight else 0

-- the channel address word: key in bits 0 to 3, zeros in 4 to 7, address in 8 to 31
abbrev pub caw_of : ℕ → Caw
caw_of word = record { key = word / 2 ^ 28; reserved = word / 2 ^ 24 % 16; address = word % 2 ^ 24 }

abbrev pub caw_word : Caw → ℕ
caw_word c = c.key * 2 ^ 28 + c.reserved % 16 * 2 ^ 24 + c.address % 2 ^ 24

-- the address is that of a doubleword
abbrev pub is_doubleword_address : ℕ → Bool
is_doubleword_address address = nat_eq (address % 8) 0

-- bits 4 to 7 are zero, and the address is that of a doubleword
abbrev pub is_whole_caw : Caw → Bool
is_whole_caw c = nat_eq c.reserved 0 && is_doubleword_address c.address

-- the channel command word: command in bits 0 to 7, data address in 8 to 31, flags in 32 to 36, zeros in 37 to 39, count in 48 to 63; bits 40 to 47 are ignored
abbrev pub ccw_flags_of : ℕ → CcwFlags
ccw_flags_of doubleword = record {
  chain_data = nat_eq (doubleword / 2 ^ 31 % 2) 1;
  chain_command = nat_eq (doubleword / 2 ^ 30 % 2) 1;
  suppress_length = nat_eq (doubleword / 2 ^ 29 % 2) 1;
  skip = nat_eq (doubleword / 2 ^ 28 % 2) 1;
  program_controlled = nat_eq (doubleword / 2 ^ 27 % 2) 1;
}

abbrev pub ccw_of : ℕ → Ccw
ccw_of doubleword = record {
  command = doubleword / 2 ^ 56;
  address = doubleword / 2 ^ 32 % 2 ^ 24;
  flags = ccw_flags_of doubleword;
  reserved = doubleword / 2 ^ 24 % 8;
  count = doubleword % 2 ^ 16;
}

abbrev pub ccw_flags_byte : CcwFlags → ℕ
ccw_flags_byte f =
    weight_of f.chain_data 0x80 + weight_of f.chain_command 0x40 + weight_of f.suppress_length 0x20 + weight_of f.skip 0x10
    + weight_of f.program_controlled 0x08

abbrev pub ccw_doubleword : Ccw → ℕ
ccw_doubleword c = c.command * 2 ^ 56 + c.address % 2 ^ 24 * 2 ^ 32 + (ccw_flags_byte c.flags + c.reserved % 8) * 2 ^ 24 + c.count

-- transfer in channel: the low four bits of the command are 1000
abbrev pub is_transfer : Ccw → Bool
is_transfer c = nat_eq (c.command % 16) 0x8

-- read backward: the low four bits of the command are 1100
abbrev pub reads_backward : ℕ → Bool
reads_backward command = nat_eq (command % 16) 0xC

-- the channel status word: key in bits 0 to 3, address in 8 to 31, unit status in 32 to 39, channel status in 40 to 47, residual count in 48 to 63; bits 4 to 7
-- are zero, and so are bits 44 to 47, of which this channel has none
abbrev pub unit_status_byte : UnitStatus → ℕ
unit_status_byte s =
    weight_of s.attention 0x80 + weight_of s.status_modifier 0x40 + weight_of s.control_unit_end 0x20 + weight_of s.busy 0x10
    + weight_of s.channel_end 0x08 + weight_of s.device_end 0x04 + weight_of s.unit_check 0x02 + weight_of s.unit_exception 0x01

abbrev pub channel_status_byte : ChannelStatus → ℕ
channel_status_byte s =
    weight_of s.program_controlled 0x80 + weight_of s.incorrect_length 0x40 + weight_of s.program_check 0x20 + weight_of s.protection_check 0x10

-- both, as the halfword in bits 32 to 47
abbrev pub status_halfword : UnitStatus → ChannelStatus → ℕ
status_halfword unit channel = unit_status_byte unit * 2 ^ 8 + channel_status_byte channel

abbrev pub csw_doubleword : Csw → ℕ
csw_doubleword c = c.key * 2 ^ 60 + c.address % 2 ^ 24 * 2 ^ 32 + status_halfword c.unit c.channel * 2 ^ 16 + c.count

abbrev pub unit_status_of : ℕ → UnitStatus
unit_status_of byte = record {
  attention = nat_eq (byte / 0x80 % 2) 1;
  status_modifier = nat_eq (byte / 0x40 % 2) 1;
  control_unit_end = nat_eq (byte / 0x20 % 2) 1;
  busy = nat_eq (byte / 0x10 % 2) 1;
  channel_end = nat_eq (byte / 0x08 % 2) 1;
  device_end = nat_eq (byte / 0x04 % 2) 1;
  unit_check = nat_eq (byte / 0x02 % 2) 1;
  unit_exception = nat_eq (byte % 2) 1;
}

abbrev pub channel_status_of : ℕ → ChannelStatus
channel_status_of byte = record {
  program_controlled = nat_eq (byte / 0x80 % 2) 1;
  incorrect_length = nat_eq (byte / 0x40 % 2) 1;
  program_check = nat_eq (byte / 0x20 % 2) 1;
  protection_check = nat_eq (byte / 0x10 % 2) 1;
}

abbrev pub csw_of : ℕ → Csw
csw_of doubleword = record {
  key = doubleword / 2 ^ 60;
  address = doubleword / 2 ^ 32 % 2 ^ 24;
  unit = unit_status_of (doubleword / 2 ^ 24 % 2 ^ 8);
  channel = channel_status_of (doubleword / 2 ^ 16 % 2 ^ 8);
  count = doubleword % 2 ^ 16;
}

-- nothing to tell: all bits are zero
abbrev pub no_unit_status : UnitStatus
no_unit_status = unit_status_of 0

abbrev pub no_channel_status : ChannelStatus
no_channel_status = channel_status_of 0

-- channel and device have done their parts: channel end and device end
abbrev pub device_has_ended : UnitStatus
device_has_ended = record no_unit_status { channel_end = true; device_end = true }

-- the unit asks for attention
abbrev pub asks_attention : UnitStatus
asks_attention = record no_unit_status { attention = true }

-- the channel program is not well formed
abbrev pub meets_program_check : ChannelStatus
meets_program_check = record no_channel_status { program_check = true }

-- a protected byte would be stored, or fetched
abbrev pub meets_protection_check : ChannelStatus
meets_protection_check = record no_channel_status { protection_check = true }
