mod BytesLemmas
mod DigitLemmas
mod FieldLemmas
mod KnownPackets
mod PacketLemmas
mod RegisterLemmas
mod RequestLemmas
