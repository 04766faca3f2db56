use Rattle.vx_cutting.proofs.JoinLemmas.{ArePart}
use Rattle.vx_cutting.proofs.columns.part_of.Given as goal

-- the values of the rows so far
abbrev pub invariant-loop-row : goal.invariant-loop-row
invariant-loop-row l = ArePart l.whole l.from l.row l.values.items
