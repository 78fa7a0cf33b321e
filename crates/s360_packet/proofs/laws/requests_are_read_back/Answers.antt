use Rattle.s360_packet.proofs.RequestLemmas.{request_read_back, binary_read_back}
use Rattle.s360_packet.proofs.laws.requests_are_read_back.Goals as goal

pub returns : goal.returns
returns c = record { each = request_read_back; binary = binary_read_back }
