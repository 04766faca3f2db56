use Rattle.std.proofs.Common.{◌≡◌, map, take}
use Rattle.vx_request.specs.RequestViews.{block_view}
use Rattle.vx_request.proofs.requests.lengths_of.Given as goal

-- the numbers so far are those of the blocks so far
abbrev pub invariant-loop-block : goal.invariant-loop-block
invariant-loop-block l = l.lengths.items ≡ map (λ b. b.rows) (map block_view (take l.block-index l.fn.blocks))
