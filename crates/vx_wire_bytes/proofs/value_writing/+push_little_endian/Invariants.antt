use Rattle.vx_wire_bytes.proofs.value_writing.+push_little_endian.Given as goal

abbrev pub decreases-push_little_endian : goal.decreases-push_little_endian
decreases-push_little_endian l = l.width
