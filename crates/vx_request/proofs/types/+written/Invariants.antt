use Rattle.std.proofs.Common.{◌≡◌, ◌+◌, ◌*◌, map, drop}
use Rattle.serde_json.specs.View.{view, items_view}
use Rattle.vx_request.specs.Objects.{list_read, each_item}
use Rattle.vx_request.specs.WrittenTypes.{named_type_in, type_within}
use Rattle.vx_request.specs.RequestViews.{named_type_view}
use Rattle.vx_request.proofs.ItemLemmas.{found_before}
use Rattle.vx_request.proofs.types.+written.Given as goal

-- a call with fewer levels is smaller, and of calls with as many the one that looks further in
abbrev pub decreases-type_within : goal.decreases-type_within
decreases-type_within l = 4 * l.levels

abbrev pub decreases-list_type_in : goal.decreases-list_type_in
decreases-list_type_in l = 4 * l.levels + 1

abbrev pub decreases-named_type_in : goal.decreases-named_type_in
decreases-named_type_in l = 4 * l.levels + 1

abbrev pub decreases-named_types_in : goal.decreases-named_types_in
decreases-named_types_in l = 4 * l.levels + 2

abbrev pub decreases-struct_type_in : goal.decreases-struct_type_in
decreases-struct_type_in l = 4 * l.levels + 3

-- what was read so far stands before what is left to read
abbrev pub invariant-named_types_in-loop-item : goal.invariant-named_types_in-loop-item
invariant-named_types_in-loop-item l =
    list_read (named_type_in (type_within l.levels)) (view l.fn.value)
    ≡ found_before (map named_type_view l.found.items) (each_item (named_type_in (type_within l.levels)) (items_view (drop l.item-index l.item-items)))
