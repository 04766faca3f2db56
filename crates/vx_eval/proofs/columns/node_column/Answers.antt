use Rattle.std.proofs.Common.{sym, subst}
use Rattle.vx_expr.proofs.TreeLemmas.{trees_of_listed}
use Rattle.vx_expr.specs.Nodes.{item_child, item_field, not_child, is_null_child, like_child, like_pattern, like_negated, like_fold_case, literal_value}
use Rattle.vx_expr.specs.Nodes.{between_value, between_lower, between_upper, between_options, cast_child, cast_target, contains_list, contains_value}
use Rattle.vx_expr.specs.Nodes.{merge_values, merge_nullability, select_child, select_fields, dynamic_left, dynamic_operator, dynamic_slot, dynamic_dtype, dynamic_default}
use Rattle.vx_expr.specs.Trees.{no_trees, tree, trees_of}
use Rattle.vx_column.specs.Columns.{Column}
use Rattle.vx_semantics.specs.Typing.{distinct_type}
use Rattle.vx_eval.specs.Scopes.{scope_rows, scope_slots}
use Rattle.vx_eval.specs.Steps.{Makes}
use Rattle.vx_eval.proofs.NodeLemmas.{meant_first, meant_second, meant_third, root_given, literal_given, item_given, not_given, is_null_given, like_given}
use Rattle.vx_eval.proofs.NodeLemmas.{between_given, cast_given, contains_given, pack_given, merge_given, select_given, dynamic_given}
use Rattle.vx_eval.proofs.columns.node_column.Goals as goal

pub returns-in-Root : goal.returns-in-Root
returns-in-Root c =
    let s = c.args.scope.now in
    rw c.in-Root.is (root_given (scope_rows s).ty (scope_slots s) (scope_rows s).rows c.root_column.result
    (subst (λ (x : Column). Makes (distinct_type x.ty) x.rows c.root_column.result) c.root.ensures c.root_column.ensures))

pub returns-in-Literal : goal.returns-in-Literal
returns-in-Literal c =
    let s = c.args.scope.now in
    let made = rw c.value.ensures at c.literal_column.ensures in
    rw c.in-Literal.is (literal_given (scope_rows s).ty (scope_slots s) (scope_rows s).rows (literal_value c.in-Literal.node) c.len.result c.literal_column.result (sym c.len.ensures) made)

pub returns-in-GetItem : goal.returns-in-GetItem
returns-in-GetItem c =
    let s = c.args.scope.now in
    let n = c.in-GetItem.node in
    let known = rw c.in-GetItem.is at c.requires.operands in
    let meant = meant_first (scope_rows s).ty (scope_slots s) (scope_rows s).rows (item_child n) no_trees c.args.operands.items c.index.result.now known c.index.ensures in
    let made = rw c.field.ensures at c.item_column.ensures in
    rw c.in-GetItem.is (item_given (scope_rows s).ty (scope_slots s) (scope_rows s).rows (item_child n) c.index.result.now c.item_column.result meant (item_field n) made)

pub returns-in-Not : goal.returns-in-Not
returns-in-Not c =
    let s = c.args.scope.now in
    let n = c.in-Not.field-0 in
    let known = rw c.in-Not.is at c.requires.operands in
    let meant = meant_first (scope_rows s).ty (scope_slots s) (scope_rows s).rows (not_child n) no_trees c.args.operands.items c.index-in-Not.result.now known c.index-in-Not.ensures in
    rw c.in-Not.is (not_given (scope_rows s).ty (scope_slots s) (scope_rows s).rows (not_child n) c.index-in-Not.result.now c.not_column.result meant c.not_column.ensures)

pub returns-in-IsNull : goal.returns-in-IsNull
returns-in-IsNull c =
    let s = c.args.scope.now in
    let n = c.in-IsNull.field-0 in
    let known = rw c.in-IsNull.is at c.requires.operands in
    let meant = meant_first (scope_rows s).ty (scope_slots s) (scope_rows s).rows (is_null_child n) no_trees c.args.operands.items c.index-in-IsNull.result.now known c.index-in-IsNull.ensures in
    rw c.in-IsNull.is (is_null_given (scope_rows s).ty (scope_slots s) (scope_rows s).rows (is_null_child n) c.index-in-IsNull.result.now c.is_null_column.result meant c.is_null_column.ensures)

pub returns-in-Like : goal.returns-in-Like
returns-in-Like c =
    let s = c.args.scope.now in
    let n = c.in-Like.node in
    let a = c.index-in-Like in
    let b = c.index-in-Like-2 in
    let known = rw c.in-Like.is at c.requires.operands in
    let first = meant_first (scope_rows s).ty (scope_slots s) (scope_rows s).rows (like_child n) (tree (like_pattern n) no_trees) c.args.operands.items a.result.now known a.ensures in
    let second = meant_second (scope_rows s).ty (scope_slots s) (scope_rows s).rows (like_child n) (like_pattern n) no_trees c.args.operands.items b.result.now known b.ensures in
    let made = rw (c.negated-negated.ensures, c.case_insensitive-folds_case.ensures) at c.like_columns.ensures in
    rw c.in-Like.is (like_given (scope_rows s).ty (scope_slots s) (scope_rows s).rows (like_child n) (like_pattern n) a.result.now b.result.now c.like_columns.result first second
    (like_negated n) (like_fold_case n) made)

pub returns-in-Between : goal.returns-in-Between
returns-in-Between c =
    let s = c.args.scope.now in
    let n = c.in-Between.node in
    let v = c.index-in-Between in
    let l = c.index-in-Between-2 in
    let u = c.index-in-Between-3 in
    let known = rw c.in-Between.is at c.requires.operands in
    let first = meant_first (scope_rows s).ty (scope_slots s) (scope_rows s).rows (between_value n) (tree (between_lower n) (tree (between_upper n) no_trees)) c.args.operands.items
    v.result.now known v.ensures in
    let second = meant_second (scope_rows s).ty (scope_slots s) (scope_rows s).rows (between_value n) (between_lower n) (tree (between_upper n) no_trees) c.args.operands.items
    l.result.now known l.ensures in
    let third = meant_third (scope_rows s).ty (scope_slots s) (scope_rows s).rows (between_value n) (between_lower n) (between_upper n) no_trees c.args.operands.items
    u.result.now known u.ensures in
    let made = rw c.options-options.ensures at c.between_columns.ensures in
    rw c.in-Between.is (between_given (scope_rows s).ty (scope_slots s) (scope_rows s).rows (between_value n) (between_lower n) v.result.now l.result.now c.between_columns.result first second
    (between_options n) (between_upper n) u.result.now third made)

pub returns-in-Cast : goal.returns-in-Cast
returns-in-Cast c =
    let s = c.args.scope.now in
    let n = c.in-Cast.node in
    let known = rw c.in-Cast.is at c.requires.operands in
    let meant = meant_first (scope_rows s).ty (scope_slots s) (scope_rows s).rows (cast_child n) no_trees c.args.operands.items c.index-in-Cast.result.now known c.index-in-Cast.ensures in
    let made = rw c.target.ensures at c.cast_column.ensures in
    rw c.in-Cast.is (cast_given (scope_rows s).ty (scope_slots s) (scope_rows s).rows (cast_child n) c.index-in-Cast.result.now c.cast_column.result meant (cast_target n) made)

pub returns-in-ListContains : goal.returns-in-ListContains
returns-in-ListContains c =
    let s = c.args.scope.now in
    let n = c.in-ListContains.field-0 in
    let a = c.index-in-ListContains in
    let b = c.index-in-ListContains-2 in
    let known = rw c.in-ListContains.is at c.requires.operands in
    let first = meant_first (scope_rows s).ty (scope_slots s) (scope_rows s).rows (contains_list n) (tree (contains_value n) no_trees) c.args.operands.items a.result.now known a.ensures in
    let second = meant_second (scope_rows s).ty (scope_slots s) (scope_rows s).rows (contains_list n) (contains_value n) no_trees c.args.operands.items b.result.now known b.ensures in
    rw c.in-ListContains.is (contains_given (scope_rows s).ty (scope_slots s) (scope_rows s).rows (contains_list n) (contains_value n) a.result.now b.result.now c.contains_columns.result
    first second c.contains_columns.ensures)

pub returns-in-Pack : goal.returns-in-Pack
returns-in-Pack c =
    let s = c.args.scope.now in
    let n = c.in-Pack.node in
    let known = rw (c.in-Pack.is, trees_of_listed) at c.requires.operands in
    let told = c.pack_column.ensures (scope_rows s).ty (scope_slots s) (scope_rows s).rows (trees_of n.values) (sym c.len-in-Pack.ensures) known in
    let made = rw (c.names.ensures.names, c.nullability.ensures) at told in
    rw c.in-Pack.is (pack_given (scope_rows s).ty (scope_slots s) (scope_rows s).rows n.values c.args.operands.items n.nullability c.pack_column.result known n.names made)

pub returns-in-Merge : goal.returns-in-Merge
returns-in-Merge c =
    let s = c.args.scope.now in
    let n = c.in-Merge.node in
    let known = rw (c.in-Merge.is, trees_of_listed) at c.requires.operands in
    let told = c.merge_column.ensures (scope_rows s).ty (scope_slots s) (scope_rows s).rows (trees_of (merge_values n)) (sym c.len-in-Merge.ensures) known in
    let made = rw c.nullability-in-Merge.ensures at told in
    rw c.in-Merge.is (merge_given (scope_rows s).ty (scope_slots s) (scope_rows s).rows (merge_values n) c.args.operands.items (merge_nullability n) c.merge_column.result known made)

pub returns-in-Select : goal.returns-in-Select
returns-in-Select c =
    let s = c.args.scope.now in
    let n = c.in-Select.node in
    let known = rw c.in-Select.is at c.requires.operands in
    let meant = meant_first (scope_rows s).ty (scope_slots s) (scope_rows s).rows (select_child n) no_trees c.args.operands.items c.index-in-Select.result.now known c.index-in-Select.ensures in
    let made = rw c.selection.ensures at c.select_column.ensures in
    rw c.in-Select.is (select_given (scope_rows s).ty (scope_slots s) (scope_rows s).rows (select_child n) c.index-in-Select.result.now c.select_column.result meant (select_fields n) made)

pub returns-in-Dynamic : goal.returns-in-Dynamic
returns-in-Dynamic c =
    let s = c.args.scope.now in
    let n = c.in-Dynamic.node in
    let known = rw c.in-Dynamic.is at c.requires.operands in
    let meant = meant_first (scope_rows s).ty (scope_slots s) (scope_rows s).rows (dynamic_left n) no_trees c.args.operands.items c.index-in-Dynamic.result.now known c.index-in-Dynamic.ensures in
    let made = rw c.slots.ensures at c.dynamic_column.ensures in
    rw c.in-Dynamic.is (dynamic_given (scope_rows s).ty (scope_slots s) (scope_rows s).rows (dynamic_left n) c.index-in-Dynamic.result.now c.dynamic_column.result meant
    (dynamic_operator n) (dynamic_slot n) (dynamic_dtype n) (dynamic_default n) made)
