use Rattle.vx_wire_bytes.proofs.DropLemmas.{steps}
use Rattle.vx_wire_bytes.proofs.trees.WireTree.+dropping.Given as goal

abbrev pub decreases-loop-last : goal.decreases-loop-last
decreases-loop-last l = steps l.self
