use Rattle.vx_wire_bytes.proofs.values.+little_endian_front.Given as goal

abbrev pub decreases-little_endian_front : goal.decreases-little_endian_front
decreases-little_endian_front l = l.width
