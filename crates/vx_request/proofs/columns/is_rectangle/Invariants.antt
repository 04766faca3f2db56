use Rattle.std.proofs.Common.{◌≡◌, ◌==◌, map, drop}
use Rattle.std.specs.List.{list_all}
use Rattle.serde_json.specs.Events.{items_len}
use Rattle.vx_request.specs.RequestViews.{cells_view}
use Rattle.vx_request.proofs.columns.is_rectangle.Given as goal

-- what is left to test
abbrev pub invariant-loop-cells : goal.invariant-loop-cells
invariant-loop-cells l =
    list_all (λ cells. items_len cells == l.fn.block.rows) (map cells_view l.fn.block.values.items)
    ≡ list_all (λ cells. items_len cells == l.fn.block.rows) (map cells_view (drop l.cells-index l.fn.block.values.items))
