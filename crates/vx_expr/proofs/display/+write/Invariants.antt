use Rattle.std.proofs.Common.{◌≤◌, ◌+◌, ◌*◌, max, [], drop}
use denote.Text.{Utf8}
use denote.Shadow.{shadow}
use Rattle.std.specs.Fmt.{IsPlainFormatter}
use Rattle.vx_dtype.proofs.PrintingLemmas.{HasBegun}
use Rattle.vx_expr.specs.Trees.{trees_of}
use Rattle.vx_expr.specs.Nodes.{node_tree, between_value, between_lower, between_upper, binary_left, binary_right, binary_tree, cast_child, contains_list, contains_value, dynamic_left, item_child, like_child, like_pattern, merge_values, select_child}
use Rattle.vx_expr.specs.Heights.{height, highest}
use Rattle.vx_expr.specs.CompactTexts.{compact_text, listed_texts, named_texts}
use Rattle.vx_expr.specs.Pieces.{part_of, parts_of, parts_text, parts_steps, part_height, parts_height}
use Rattle.vx_expr.proofs.display.+write.Given as goal

-- four times the height of an expression, and two or three more than that of the highest child for the parts of a node
abbrev pub decreases-write_expr : goal.decreases-write_expr
decreases-write_expr g l = 4 * height l.expr.now + 1

abbrev pub decreases-write_node : goal.decreases-write_node
decreases-write_node g l = 4 * height (node_tree l.node.now)

abbrev pub decreases-write_within : goal.decreases-write_within
decreases-write_within g l = 4 * height l.expr.now + 2

abbrev pub decreases-write_item : goal.decreases-write_item
decreases-write_item g l = 4 * height (item_child l.node.now) + 2

abbrev pub decreases-write_binary : goal.decreases-write_binary
decreases-write_binary g l = 4 * max (height (binary_left l.node.now)) (height (binary_right l.node.now)) + 3

abbrev pub decreases-write_piece : goal.decreases-write_piece
decreases-write_piece g l = 4 * part_height (part_of l.piece) + 2

abbrev pub decreases-write_like : goal.decreases-write_like
decreases-write_like g l = 4 * max (height (like_child l.node.now)) (height (like_pattern l.node.now)) + 2

abbrev pub decreases-write_between : goal.decreases-write_between
decreases-write_between g l = 4 * max (height (between_value l.node.now)) (max (height (between_lower l.node.now)) (height (between_upper l.node.now))) + 3

abbrev pub decreases-write_before : goal.decreases-write_before
decreases-write_before g l = 4 * height l.expr.now + 2

abbrev pub decreases-write_cast : goal.decreases-write_cast
decreases-write_cast g l = 4 * height (cast_child l.node.now) + 2

abbrev pub decreases-write_contains : goal.decreases-write_contains
decreases-write_contains g l = 4 * max (height (contains_list l.node.now)) (height (contains_value l.node.now)) + 2

abbrev pub decreases-write_pack : goal.decreases-write_pack
decreases-write_pack g l = 4 * highest (trees_of l.node.now.values) + 3

abbrev pub decreases-write_merge : goal.decreases-write_merge
decreases-write_merge g l = 4 * highest (trees_of (merge_values l.node.now)) + 3

abbrev pub decreases-write_select : goal.decreases-write_select
decreases-write_select g l = 4 * height (select_child l.node.now) + 2

abbrev pub decreases-write_dynamic : goal.decreases-write_dynamic
decreases-write_dynamic g l = 4 * height (dynamic_left l.node.now) + 2

abbrev pub decreases-write_list : goal.decreases-write_list
decreases-write_list g l = 4 * highest (trees_of l.values.now) + 2

abbrev pub decreases-write_named : goal.decreases-write_named
decreases-write_named g l = 4 * highest (trees_of l.values.now) + 2

-- no piece is higher than the operands, and what is left is the text of the pieces
abbrev pub invariant-write_binary-loop-piece : goal.invariant-write_binary-loop-piece
invariant-write_binary-loop-piece g l =
    (parts_height (parts_of l.left.items) ≤ max (height (binary_left l.node)) (height (binary_right l.node)))
    × (IsPlainFormatter l.fn.f → HasBegun g.W.Write.write_str_gives l.fn.f (compact_text (binary_tree l.node)) l.f (parts_text (parts_of l.left.items)))

abbrev pub decreases-write_binary-loop-piece : goal.decreases-write_binary-loop-piece
decreases-write_binary-loop-piece g l = parts_steps (parts_of l.left.items)

-- the separator is text, and what is left is the text of the expressions from here on
abbrev pub invariant-write_list-loop-i : goal.invariant-write_list-loop-i
invariant-write_list-loop-i g l =
    shadow (Utf8 l.separator)
    × (IsPlainFormatter l.initial.f → HasBegun g.W.Write.write_str_gives l.initial.f (listed_texts [] (trees_of l.values)) l.f (listed_texts l.separator (trees_of (drop l.i l.values))))

-- the same with the names
abbrev pub invariant-write_named-loop-i : goal.invariant-write_named-loop-i
invariant-write_named-loop-i g l =
    shadow (Utf8 l.separator)
    × (IsPlainFormatter l.initial.f → HasBegun g.W.Write.write_str_gives l.initial.f (named_texts [] l.names (trees_of l.values)) l.f (named_texts l.separator (drop l.i l.names) (trees_of (drop l.i l.values))))
