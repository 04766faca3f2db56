use Rattle.vx_wire_bytes.proofs.fields.+sevens_front.Given as goal

abbrev pub decreases-sevens_front : goal.decreases-sevens_front
decreases-sevens_front l = l.more
