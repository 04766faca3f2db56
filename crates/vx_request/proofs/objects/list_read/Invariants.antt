use Rattle.std.proofs.Common.{◌≡◌, map, drop}
use Rattle.serde_json.specs.View.{view, items_view}
use Rattle.vx_request.specs.Objects.{list_read, each_item}
use Rattle.vx_request.proofs.ItemLemmas.{found_before}
use Rattle.vx_request.proofs.objects.list_read.Given as goal

-- what was read so far stands before what is left to read
abbrev pub invariant-loop-item : goal.invariant-loop-item
invariant-loop-item g l =
    list_read g.T.FromValue.found (view l.fn.value)
    ≡ found_before (map g.T.FromValue.seen l.list.items) (each_item g.T.FromValue.found (items_view (drop l.item-index l.item-items)))
