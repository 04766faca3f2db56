use Rattle.std.proofs.Common.{◌≡◌, map, drop}
use Rattle.vx_dtype.specs.TypeViews.{type_view}
use Rattle.vx_request.specs.Cells.{blocks_of}
use Rattle.vx_request.specs.RequestViews.{block_view, columns_view}
use Rattle.vx_request.proofs.ItemLemmas.{found_before}
use Rattle.vx_request.proofs.columns.blocks_of.Given as goal

-- the blocks so far stand before what is left to make
abbrev pub invariant-loop-block : goal.invariant-loop-block
invariant-loop-block l =
    blocks_of (map type_view l.dtypes) (map (λ b. b.values) (map block_view l.fn.blocks))
    ≡ found_before (map columns_view l.made.items) (blocks_of (map type_view l.dtypes) (map (λ b. b.values) (map block_view (drop l.block-index l.fn.blocks))))
