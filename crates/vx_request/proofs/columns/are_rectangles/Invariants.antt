use Rattle.std.proofs.Common.{◌≡◌, map, drop}
use Rattle.std.specs.List.{list_all}
use Rattle.vx_request.specs.Requests.{is_rectangle}
use Rattle.vx_request.specs.RequestViews.{block_view}
use Rattle.vx_request.proofs.columns.are_rectangles.Given as goal

-- what is left to test
abbrev pub invariant-loop-block : goal.invariant-loop-block
invariant-loop-block l = list_all (is_rectangle l.columns) (map block_view l.fn.blocks) ≡ list_all (is_rectangle l.columns) (map block_view (drop l.block-index l.fn.blocks))
