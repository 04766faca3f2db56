-- The wire form of expressions: the tree of an expression, and what holds at each of its nodes.
use Rattle.vx_dtype.specs.Types.{Bytes}
use Rattle.vx_expr.specs.Children.{id_of}
use Rattle.vx_expr.specs.Trees.{Tree, root, literal, get_item, binary, not_of, is_null_of, like, between, cast, list_contains, pack, merge, select}
use Rattle.vx_expr.specs.Trees.{dynamic, Trees, no_trees, tree}
use Rattle.vx_wire_bytes.specs.Wires.{Wire, node, Wires, no_wires, first, wire_bytes}
use Rattle.vx_wire.specs.Metadata.{metadata_bytes}

-- the wire node of an expression's node, with these children
abbrev pub node_with : Tree → Wires → Wire
node_with e children = node (id_of e) (metadata_bytes e) children

-- lists of one wire node, of two, and of three
abbrev pub only : Wire → Wires
only a = first a no_wires

abbrev pub two : Wire → Wire → Wires
two a b = first a (only b)

abbrev pub three : Wire → Wire → Wire → Wires
three a b c = first a (two b c)

abbrev mutual
  -- the wire tree of an expression
  pub wire_of : Tree → Wire
  wire_of root = node_with root no_wires
  wire_of (literal s) = node_with (literal s) no_wires
  wire_of (get_item f e) = node_with (get_item f e) (only (wire_of e))
  wire_of (binary l op r) = node_with (binary l op r) (two (wire_of l) (wire_of r))
  wire_of (not_of e) = node_with (not_of e) (only (wire_of e))
  wire_of (is_null_of e) = node_with (is_null_of e) (only (wire_of e))
  wire_of (like e p negated fold_case) = node_with (like e p negated fold_case) (two (wire_of e) (wire_of p))
  wire_of (between e lower upper options) = node_with (between e lower upper options) (three (wire_of e) (wire_of lower) (wire_of upper))
  wire_of (cast e t) = node_with (cast e t) (only (wire_of e))
  wire_of (list_contains l v) = node_with (list_contains l v) (two (wire_of l) (wire_of v))
  wire_of (pack names es n) = node_with (pack names es n) (wires_of es)
  wire_of (merge es n) = node_with (merge es n) (wires_of es)
  wire_of (select s e) = node_with (select s e) (only (wire_of e))
  wire_of (dynamic e op k t default) = node_with (dynamic e op k t default) (only (wire_of e))

  -- the wire trees of a list of expressions
  pub wires_of : Trees → Wires
  wires_of no_trees = no_wires
  wires_of (tree e es) = first (wire_of e) (wires_of es)

-- the bytes that spell an expression
abbrev pub wire_text : Tree → Bytes
wire_text e = wire_bytes (wire_of e)

abbrev mutual
  -- something holds at each node of an expression
  pub Everywhere : (Tree → Type 0) → Tree → Type 0
  Everywhere P root = P root
  Everywhere P (literal s) = P (literal s)
  Everywhere P (get_item f e) = P (get_item f e) × Everywhere P e
  Everywhere P (binary l op r) = P (binary l op r) × Everywhere P l × Everywhere P r
  Everywhere P (not_of e) = P (not_of e) × Everywhere P e
  Everywhere P (is_null_of e) = P (is_null_of e) × Everywhere P e
  Everywhere P (like e p negated fold_case) = P (like e p negated fold_case) × Everywhere P e × Everywhere P p
  Everywhere P (between e lower upper options) = P (between e lower upper options) × Everywhere P e × Everywhere P lower × Everywhere P upper
  Everywhere P (cast e t) = P (cast e t) × Everywhere P e
  Everywhere P (list_contains l v) = P (list_contains l v) × Everywhere P l × Everywhere P v
  Everywhere P (pack names es n) = P (pack names es n) × EverywhereIn P es
  Everywhere P (merge es n) = P (merge es n) × EverywhereIn P es
  Everywhere P (select s e) = P (select s e) × Everywhere P e
  Everywhere P (dynamic e op k t default) = P (dynamic e op k t default) × Everywhere P e

  -- something holds at each node of a list of expressions
  pub EverywhereIn : (Tree → Type 0) → Trees → Type 0
  EverywhereIn P no_trees = Unit {0}
  EverywhereIn P (tree e es) = Everywhere P e × EverywhereIn P es
