use Rattle.std.proofs.Common.{map, take}
use Rattle.vx_dtype.specs.TypeViews.{type_view}
use Rattle.vx_tables.specs.Blocks.{block_view}
use Rattle.vx_cutting.proofs.JoinLemmas.{AreJoined}
use Rattle.vx_cutting.proofs.columns.joined_column.Given as goal

-- the values of the blocks so far
abbrev pub invariant-loop-i : goal.invariant-loop-i
invariant-loop-i l = AreJoined l.place (type_view l.dtype) (map block_view (take l.i l.blocks)) l.values.items
