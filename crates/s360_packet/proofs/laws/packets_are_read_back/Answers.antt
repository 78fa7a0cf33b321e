use Rattle.s360_packet.proofs.PacketLemmas.{packet_read_back, packet_too_long, between_dropped}
use Rattle.s360_packet.proofs.laws.packets_are_read_back.Goals as goal

pub returns : goal.returns
returns c = record { whole = packet_read_back; too_long = packet_too_long; between = between_dropped }
