-- Replacing expressions in an expression, from the leaves up.
use Rattle.std.specs.Prelude.{cond, map}
use Rattle.vx_dtype.specs.declared.Nullability.TheVariants.{NonNullable}
use Rattle.vx_dtype.specs.Types.{Bytes, Fields}
use Rattle.vx_dtype.specs.TypeRules.{field_names}
use Rattle.vx_expr.specs.Children.{is_root_tree}
use Rattle.vx_expr.specs.Equal.{tree_eq}
use Rattle.vx_expr.specs.Trees.{Tree, root, literal, get_item, binary, not_of, is_null_of, like, between, cast, list_contains, pack, merge, select, dynamic, Trees, no_trees, tree, trees_of}

unfoldable mutual
  -- what the change makes of each node, once its children are changed
  pub changed_by : (Tree → Tree) → Tree → Tree
  changed_by change root = change root
  changed_by change (literal s) = change (literal s)
  changed_by change (get_item f e) = change (get_item f (changed_by change e))
  changed_by change (binary l op r) = change (binary (changed_by change l) op (changed_by change r))
  changed_by change (not_of e) = change (not_of (changed_by change e))
  changed_by change (is_null_of e) = change (is_null_of (changed_by change e))
  changed_by change (like e p negated fold_case) = change (like (changed_by change e) (changed_by change p) negated fold_case)
  changed_by change (between e lower upper options) =
      change (between (changed_by change e) (changed_by change lower) (changed_by change upper) options)
  changed_by change (cast e t) = change (cast (changed_by change e) t)
  changed_by change (list_contains l v) = change (list_contains (changed_by change l) (changed_by change v))
  changed_by change (pack names es n) = change (pack names (all_changed_by change es) n)
  changed_by change (merge es n) = change (merge (all_changed_by change es) n)
  changed_by change (select s e) = change (select s (changed_by change e))
  changed_by change (dynamic e op k t default) = change (dynamic (changed_by change e) op k t default)

  -- the same of each expression of a list
  pub all_changed_by : (Tree → Tree) → Trees → Trees
  all_changed_by change no_trees = no_trees
  all_changed_by change (tree e es) = tree (changed_by change e) (all_changed_by change es)

-- the replacement where the node equals the needle, else the node
abbrev pub replaced_where_equal : Tree → Tree → Tree → Tree
replaced_where_equal needle replacement e = cond (tree_eq e needle) replacement e

-- the expression with each node that equals the needle, once its children are replaced, replaced
abbrev pub replaced : Tree → Tree → Tree → Tree
replaced needle replacement e = changed_by (replaced_where_equal needle replacement) e

-- a column of the row
abbrev pub column : Bytes → Tree
column c = get_item c root

-- the row as a pack of its columns
abbrev pub packed_row : Fields → Tree
packed_row fs = pack (field_names fs) (trees_of (map column (field_names fs))) NonNullable

-- the pack of the columns where the node is the row, else the node
abbrev pub packed_where_root : Fields → Tree → Tree
packed_where_root fs e = cond (is_root_tree e) (packed_row fs) e

-- the expression with each row replaced by a pack of its columns
abbrev pub root_replaced : Fields → Tree → Tree
root_replaced fs e = changed_by (packed_where_root fs) e
