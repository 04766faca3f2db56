use Rattle.std.proofs.Common.{ap, ◌∙◌, length, arith}
use Rattle.std.proofs.lemmas.List.{length-map}
use Rattle.std.proofs.lemmas.Result.{IfOk-weaker}
use Rattle.vx_dtype.specs.Values.{value_of}
use Rattle.vx_block_pruning.proofs.ColumnLemmas.{run-is}
use Rattle.vx_block_pruning.proofs.statistics.column_of.Goals as goal

pub rows_between-requires-clause-plain : goal.rows_between-requires-clause-plain
rows_between-requires-clause-plain c = c.values.ensures.held.plain

pub rows_between-requires-clause-within : goal.rows_between-requires-clause-within
rows_between-requires-clause-within c =
    let long = ap length c.values.ensures.held.rows ∙ length-map c.args.stat.now.values value_of in
    omega (arith, long, c.requires.within)

pub returns : goal.returns
returns c =
    IfOk-weaker c.rows_between.result _ _
    (λ made e. run-is c.args.stat.now c.values.result.now made c.args.first c.args.count c.values.ensures.held c.requires.some c.requires.within e) c.rows_between.ensures
