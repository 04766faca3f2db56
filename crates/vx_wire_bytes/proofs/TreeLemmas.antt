-- How a wire tree is seen that was made of its parts, or is taken apart.
use Rattle.std.proofs.Common.{◌≡◌, ◌+◌, true, false, ◌&&◌, ap, ◌∙◌}
use Rattle.std.specs.Str.{bytes_eq}
use Rattle.vx_wire_bytes.specs.WireEqual.{wire_eq, wires_eq}
use Rattle.vx_wire_bytes.specs.Wires.{Wire, node, size_of, sizes_of}
use Rattle.vx_wire_bytes.specs.WireViews.{tree_step, tree_view, trees_view}
use Rattle.vx_wire_bytes.specs.declared.trees.WireTree.{WireTree}
use Rattle.vx_wire_bytes.specs.declared.trees.WireTree.TheOpen.{WireTree-F}
use Rattle.vx_wire_bytes.specs.declared.trees.WireTree.TheViews.{out-WireTree, roll-WireTree}
use Rattle.vx_wire_bytes.specs.declared.trees.WireTree.TheFolds.{fold-roll-WireTree, fold_out-WireTree}

pub tree_view-roll : (t : WireTree-F WireTree) → tree_view (roll-WireTree t) ≡ node t.id t.metadata.items (trees_view t.children.items)
tree_view-roll = fold-roll-WireTree Wire tree_step

pub tree_view-out : (t : WireTree) → tree_view t ≡ node (out-WireTree t).id (out-WireTree t).metadata.items (trees_view (out-WireTree t).children.items)
tree_view-out = fold_out-WireTree Wire tree_step

-- wire trees are compared by their parts
pub wire_eq_parts : (t u : WireTree) → wire_eq (tree_view t) (tree_view u)
    ≡ (bytes_eq (out-WireTree t).id (out-WireTree u).id && (bytes_eq (out-WireTree t).metadata.items (out-WireTree u).metadata.items
    && wires_eq (trees_view (out-WireTree t).children.items) (trees_view (out-WireTree u).children.items)))
unfolding wire_eq
wire_eq_parts t u =
    ap (λ (w : Wire). wire_eq w (tree_view u)) (tree_view-out t)
    ∙ ap (wire_eq (node (out-WireTree t).id (out-WireTree t).metadata.items (trees_view (out-WireTree t).children.items))) (tree_view-out u)

-- the nodes of a tree are its own and those of its children
pub size_of-out : (t : WireTree) → size_of (tree_view t) ≡ 1 + sizes_of (trees_view (out-WireTree t).children.items)
size_of-out t = ap size_of (tree_view-out t)

-- trees of one id and metadata are compared by their children
pub same_heads : (t u : WireTree) → bytes_eq (out-WireTree t).id (out-WireTree u).id ≡ true → bytes_eq (out-WireTree t).metadata.items (out-WireTree u).metadata.items ≡ true
    → wire_eq (tree_view t) (tree_view u) ≡ wires_eq (trees_view (out-WireTree t).children.items) (trees_view (out-WireTree u).children.items)
same_heads t u ids metadata =
    wire_eq_parts t u ∙ (λ i. ids i && (metadata i && wires_eq (trees_view (out-WireTree t).children.items) (trees_view (out-WireTree u).children.items)))

pub other_ids : (t u : WireTree) → bytes_eq (out-WireTree t).id (out-WireTree u).id ≡ false → wire_eq (tree_view t) (tree_view u) ≡ false
other_ids t u ids =
    wire_eq_parts t u ∙ (λ i. ids i && (bytes_eq (out-WireTree t).metadata.items (out-WireTree u).metadata.items
    && wires_eq (trees_view (out-WireTree t).children.items) (trees_view (out-WireTree u).children.items)))

pub other_metadata : (t u : WireTree) → bytes_eq (out-WireTree t).id (out-WireTree u).id ≡ true → bytes_eq (out-WireTree t).metadata.items (out-WireTree u).metadata.items ≡ false
    → wire_eq (tree_view t) (tree_view u) ≡ false
other_metadata t u ids metadata =
    wire_eq_parts t u ∙ (λ i. ids i && (metadata i && wires_eq (trees_view (out-WireTree t).children.items) (trees_view (out-WireTree u).children.items)))
