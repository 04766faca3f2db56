use Rattle.std.proofs.Common.{◌≡◌, ◌+◌, ◌≤◌, map, drop}
use Rattle.vx_request.specs.RequestMembers.{rows_number, most_rows}
use Rattle.vx_request.specs.RequestViews.{block_view}
use Rattle.vx_request.proofs.request_members.rows_within.Given as goal

-- the rows so far and those that may still come are the most, and those left come beside the rows so far
abbrev pub invariant-loop-block : goal.invariant-loop-block
invariant-loop-block l = record {
  within : l.left ≤ most_rows;
  left : rows_number (map block_view l.fn.blocks) + l.left ≡ most_rows + rows_number (map block_view (drop l.block-index l.fn.blocks));
}
