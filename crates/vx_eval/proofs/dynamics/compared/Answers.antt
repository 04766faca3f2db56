use Rattle.std.proofs.Common.{ap, ◌∙◌}
use Rattle.std.proofs.Math.ListN.{replicate}
use Rattle.vx_dtype.specs.Order.{compare3}
use Rattle.vx_column.specs.Columns.{Column, zip_rows}
use Rattle.vx_dtype.specs.Values.{value_of}
use Rattle.vx_eval.proofs.SlotLemmas.{zip_repeated}
use Rattle.vx_eval.proofs.dynamics.compared.Goals as goal

pub returns-clause-rows : goal.returns-clause-rows
returns-clause-rows c =
    let a = c.args in
    let rows = a.operand.now.rows in
    c.in_ok-answers.ensures.rows ∙ ap (λ (d : Column). zip_rows (compare3 a.op) rows d.rows) c.in_ok-values.ensures
    ∙ (λ i. zip_rows (compare3 a.op) rows (replicate (c.len.ensures i) (c.in_ok-value.ensures.value i))) ∙ zip_repeated (compare3 a.op) rows (value_of a.held.now)
