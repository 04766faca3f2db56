use Rattle.std.proofs.Common.{◌≡◌, ◌+◌, ◌*◌, drop}
use Rattle.serde_json.specs.View.{view, items_view}
use Rattle.vx_dtype.specs.TypeRules.{depth_of, depth_below}
use Rattle.vx_dtype.specs.TypeViews.{type_view}
use Rattle.vx_dtype.proofs.FieldsFrom.{fields_from}
use Rattle.vx_request.specs.Objects.{each_item}
use Rattle.vx_request.specs.Cells.{raw_in, members_in}
use Rattle.vx_request.specs.RequestViews.{raws_view}
use Rattle.vx_request.proofs.ItemLemmas.{found_before}
use Rattle.vx_request.proofs.cells.+cells.Given as goal

-- twice the depth, and one more for items and for fields, which are as deep as the deepest
abbrev pub decreases-raw_in : goal.decreases-raw_in
decreases-raw_in l = 2 * depth_of (type_view l.dtype.now)

abbrev pub decreases-raws_in : goal.decreases-raws_in
decreases-raws_in l = 2 * depth_of (type_view l.dtype.now) + 1

abbrev pub decreases-members_in : goal.decreases-members_in
decreases-members_in l = 2 * depth_below l.fields.now + 1

-- what was read so far stands before what is left to read
abbrev pub invariant-raws_in-loop-item : goal.invariant-raws_in-loop-item
invariant-raws_in-loop-item l =
    each_item (raw_in (type_view l.dtype)) (items_view l.fn.items)
    ≡ found_before (raws_view l.values) (each_item (raw_in (type_view l.dtype)) (items_view (drop l.item-index l.fn.items)))

-- the members that were read so far stand before those left to read
abbrev pub invariant-members_in-loop-i : goal.invariant-members_in-loop-i
invariant-members_in-loop-i l = members_in l.fields (view l.value) ≡ found_before (raws_view l.values) (members_in (fields_from l.i l.fields) (view l.value))
