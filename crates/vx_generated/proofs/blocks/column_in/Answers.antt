use Rattle.std.proofs.Common.{◌∙◌, ap, arith}
use Rattle.vx_generated.specs.GeneratedBlocks.{column_in}
use Rattle.vx_generated.specs.GeneratedViews.{column_view, integers_of}
use Rattle.vx_generated.proofs.ColumnLemmas.{answers-made, made-is}
use Rattle.vx_generated.proofs.blocks.column_in.Goals as goal

pub made-requires : goal.made-requires
made-requires c = (
  column_in (column_view c.args.column) c.args.rows c.args.block,
  answers-made (column_view c.args.column) c.args.rows c.args.block c.integer.result c.nullability.result c.in_ok-integers.integers.items c.primitive.result
      (omega (arith, c.ranges.rows.fits)) c.requires c.integer.ensures c.nullability.ensures
      (c.in_ok-integers.ensures ∙ ap integers_of (c.as_slice.ensures.value ∙ c.in_ok-numbers.ensures)) c.primitive.ensures,
)

pub returns : goal.returns
returns c =
    made-is (column_in (column_view c.args.column) c.args.rows c.args.block) c.primitive.result c.made.result c.made.ensures
    (answers-made (column_view c.args.column) c.args.rows c.args.block c.integer.result c.nullability.result c.in_ok-integers.integers.items c.primitive.result
    (omega (arith, c.ranges.rows.fits)) c.requires c.integer.ensures c.nullability.ensures
    (c.in_ok-integers.ensures ∙ ap integers_of (c.as_slice.ensures.value ∙ c.in_ok-numbers.ensures)) c.primitive.ensures)
