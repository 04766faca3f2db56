-- For the checker: no public clause cites this.
-- What a hash takes in of expressions: their whole structure, each kind by a number of its own, each list with a mark before every part
-- and another at its end. Of two operands the one that a walk goes on with comes last, so that a loop goes down a chain to either side.
use Rattle.std.specs.Prelude.{◌++◌, Bool, true, false}
use Rattle.std.specs.Hash as fed
use Rattle.std.specs.Hash.{HashWrites}
use Rattle.vx_dtype.specs.TypeRules.{null_number}
use Rattle.vx_dtype.specs.Feeds.{bytes_feed, names_feed, ty_feed, typed_feed}
use Rattle.vx_expr.specs.declared.selections.FieldSelection.{FieldSelection}
use Rattle.vx_expr.specs.Operators.{operator_number}
use Rattle.vx_expr.specs.Trees.{Tree, root, literal, get_item, binary, not_of, is_null_of, like, between}
use Rattle.vx_expr.specs.Trees.{cast, list_contains, pack, merge, select, dynamic, Trees, no_trees, tree}
use Rattle.vx_expr.specs.Leanings.{leans_left}
use Rattle.vx_expr.specs.Codes.{comparison_number, strictness_number}

-- which of the two choices it is, and its names
abbrev pub selection_feed : FieldSelection → HashWrites
selection_feed (FieldSelection.Include fs) = fed.u8 0 ++ names_feed fs
selection_feed (FieldSelection.Exclude fs) = fed.u8 1 ++ names_feed fs

-- the number of the kind, and the parts that are no expressions
abbrev pub own_feed : Tree → HashWrites
own_feed root = fed.u8 0
own_feed (literal s) = fed.u8 1 ++ typed_feed s
own_feed (get_item f e) = fed.u8 2 ++ bytes_feed f
own_feed (binary l op r) = fed.u8 3 ++ fed.u8 (operator_number op)
own_feed (not_of e) = fed.u8 4
own_feed (is_null_of e) = fed.u8 5
own_feed (like e p negated fold_case) = fed.u8 6 ++ fed.bool negated ++ fed.bool fold_case
own_feed (between e l u o) = fed.u8 7 ++ fed.u8 (strictness_number o.lower_strict) ++ fed.u8 (strictness_number o.upper_strict)
own_feed (cast e t) = fed.u8 8 ++ ty_feed t
own_feed (list_contains l v) = fed.u8 9
own_feed (pack fs es n) = fed.u8 10 ++ names_feed fs ++ fed.u8 (null_number n)
own_feed (merge es n) = fed.u8 11 ++ fed.u8 (null_number n)
own_feed (select s e) = fed.u8 12 ++ selection_feed s
own_feed (dynamic e op k t default) = fed.u8 13 ++ fed.u8 (comparison_number op) ++ fed.u32 k ++ ty_feed t ++ fed.bool default

-- both operands, the one last that a walk goes on with: the left one where it leans left
abbrev pub operands_feed : Bool → HashWrites → HashWrites → HashWrites
operands_feed true left right = right ++ left
operands_feed false left right = left ++ right

unfoldable mutual
  -- the node's own parts, and then each child
  pub tree_feed : Tree → HashWrites
  tree_feed root = own_feed root
  tree_feed (literal s) = own_feed (literal s)
  tree_feed (get_item f e) = own_feed (get_item f e) ++ tree_feed e
  tree_feed (binary l op r) =
      own_feed (binary l op r) ++ operands_feed (leans_left op l r) (tree_feed l) (tree_feed r)
  tree_feed (not_of e) = own_feed (not_of e) ++ tree_feed e
  tree_feed (is_null_of e) = own_feed (is_null_of e) ++ tree_feed e
  tree_feed (like e p m k) = own_feed (like e p m k) ++ tree_feed e ++ tree_feed p
  tree_feed (between e l u o) = own_feed (between e l u o) ++ tree_feed e ++ tree_feed l ++ tree_feed u
  tree_feed (cast e t) = own_feed (cast e t) ++ tree_feed e
  tree_feed (list_contains l v) = own_feed (list_contains l v) ++ tree_feed l ++ tree_feed v
  tree_feed (pack fs es n) = own_feed (pack fs es n) ++ trees_feed es
  tree_feed (merge es n) = own_feed (merge es n) ++ trees_feed es
  tree_feed (select s e) = own_feed (select s e) ++ tree_feed e
  tree_feed (dynamic e op k t b) = own_feed (dynamic e op k t b) ++ tree_feed e

  -- each expression of a list
  pub trees_feed : Trees → HashWrites
  trees_feed no_trees = fed.u8 0
  trees_feed (tree e es) = fed.u8 1 ++ tree_feed e ++ trees_feed es
