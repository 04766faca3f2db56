use Rattle.vx_laws_topk.proofs.Inserting.{is_sorted, is_stable, keeps_rows}
use Rattle.vx_laws_topk.proofs.top.key_order_keeps_rows.Goals as goal

pub returns-clause-rows : goal.returns-clause-rows
returns-clause-rows c = keeps_rows

pub returns-clause-sorted : goal.returns-clause-sorted
returns-clause-sorted c = is_sorted

pub returns-clause-stable : goal.returns-clause-stable
returns-clause-stable c = is_stable
