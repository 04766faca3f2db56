use Rattle.vx_topk.specs.FirstRows.{ArePutIn}
use Rattle.vx_topk.proofs.first_rows.FirstRows.put_rows.Given as goal

abbrev pub invariant-loop-row : goal.invariant-loop-row
invariant-loop-row l = ArePutIn l.fn.self l.self l.block l.row l.rows
