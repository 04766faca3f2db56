use Rattle.vx_scan.proofs.PushLemmas.{pushed_fit, pushed_rows, where_ok}
use Rattle.vx_scan.proofs.block_scans.push_values.Goals as goal

pub returns-clause-fit : goal.returns-clause-fit
returns-clause-fit c = λ u n k. where_ok c.append_to.result (λ h. pushed_fit c.args.column.now c.args.rows.now.items c.append_to.new.values.items u n k h) c.append_to.ensures.rows

pub returns-clause-rows : goal.returns-clause-rows
returns-clause-rows c = λ u n. where_ok c.append_to.result (λ h. pushed_rows c.args.column.now c.args.rows.now.items c.append_to.new.values.items u n h) c.append_to.ensures.rows
