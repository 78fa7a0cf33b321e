use Rattle.s360_packet.proofs.target.push_memory_map.Goals as goal

pub returns : goal.returns
returns c =
    let map = rw c.in_radix.ensures at c.in_ok-map.ensures.ok
    in rw (c.as_bytes.ensures.value, map) at c.push_part.ensures
