use Rattle.std.proofs.Common.{◌∙◌, ap, arith}
use Rattle.vx_laws_generated.specs.GeneratedTable.{bound_in, bound_of}
use Rattle.vx_generated.specs.GeneratedViews.{column_view}
use Rattle.vx_generated.proofs.NumberLemmas.{more-from_zero, bound-told, told-fits}
use Rattle.vx_generated.proofs.statistics.bounds_in.Goals as goal

pub bound_value-requires : goal.bound_value-requires
bound_value-requires c =
    told-fits (column_view c.args.column) c.args.stat c.args.rows c.loop-block.block c.integer.result c.in_ok-numbers.numbers.items c.bound_of-bound.result
    c.integer.ensures c.in_ok-numbers.ensures (c.bound_of-bound.ensures ∙ ap (bound_of c.args.stat) c.as_slice.ensures.value)
    (omega (arith, c.ranges.rows.fits)) (omega (arith, c.loop-block-test.true, c.block_count-blocks.ensures))

pub loop-block-preserved : goal.loop-block-preserved
loop-block-preserved c =
    more-from_zero (bound_in (column_view c.args.column) c.args.stat c.args.rows) c.loop-block.block c.loop-block.values.items c.push.new.self.items
    c.bound_value.result c.in_ok-push.ensures.items c.loop-block.invariant
    (c.bound_value.ensures
    ∙ bound-told (column_view c.args.column) c.args.stat c.args.rows c.loop-block.block c.integer.result c.in_ok-numbers.numbers.items
    c.bound_of-bound.result c.integer.ensures c.in_ok-numbers.ensures (c.bound_of-bound.ensures ∙ ap (bound_of c.args.stat) c.as_slice.ensures.value))
