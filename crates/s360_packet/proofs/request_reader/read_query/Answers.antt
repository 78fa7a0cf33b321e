use Rattle.s360_packet.proofs.request_reader.read_query.Goals as goal

pub returns-in-Some-behind : goal.returns-in-Some-behind
returns-in-Some-behind c = rw (c.in_default.ensures, c.in-Some-behind.ensures) c.read_description.ensures

pub returns-in-Some-behind-2 : goal.returns-in-Some-behind-2
returns-in-Some-behind-2 c = rw (c.in_default.ensures, c.in_default-behind.ensures, c.in-Some-behind-2.ensures) c.read_memory_map.ensures
