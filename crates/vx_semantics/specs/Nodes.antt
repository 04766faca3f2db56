-- The nodes of an expression, asked or not, and whether one of them breaks.
use Rattle.std.specs.Prelude.{Bool, List, [], ◌∷◌, ◌++◌}
use Rattle.std.specs.List.{list_any}
use Rattle.vx_dtype.specs.Types.{Ty}
use Rattle.vx_dtype.specs.Values.{Val}
use Rattle.vx_expr.specs.Trees.{Tree, root, literal, get_item, binary, not_of, is_null_of, like, between, cast, list_contains, pack, merge, select, dynamic}
use Rattle.vx_expr.specs.Trees.{Trees, no_trees, tree}
use Rattle.vx_semantics.specs.Meaning.{Slots}
use Rattle.vx_semantics.specs.Breaks.{Cause, breaks_by}

unfoldable mutual
  -- the nodes of an expression, each before those below it, children in order
  pub nodes_of : Tree → List Tree
  nodes_of root = root ∷ []
  nodes_of (literal s) = literal s ∷ []
  nodes_of (get_item f e) = get_item f e ∷ nodes_of e
  nodes_of (binary l op r) = binary l op r ∷ (nodes_of l ++ nodes_of r)
  nodes_of (not_of e) = not_of e ∷ nodes_of e
  nodes_of (is_null_of e) = is_null_of e ∷ nodes_of e
  nodes_of (like e p negated fold_case) = like e p negated fold_case ∷ (nodes_of e ++ nodes_of p)
  nodes_of (between e lower upper options) = between e lower upper options ∷ (nodes_of e ++ (nodes_of lower ++ nodes_of upper))
  nodes_of (cast e t) = cast e t ∷ nodes_of e
  nodes_of (list_contains l v) = list_contains l v ∷ (nodes_of l ++ nodes_of v)
  nodes_of (pack names es n) = pack names es n ∷ nodes_of_all es
  nodes_of (merge es n) = merge es n ∷ nodes_of_all es
  nodes_of (select s e) = select s e ∷ nodes_of e
  nodes_of (dynamic e op k t default) = dynamic e op k t default ∷ nodes_of e

  -- the nodes of the expressions of a list
  pub nodes_of_all : Trees → List Tree
  nodes_of_all no_trees = []
  nodes_of_all (tree e es) = nodes_of e ++ nodes_of_all es

-- whether some node of an expression passes a test
abbrev pub some_node : (Tree → Bool) → Tree → Bool
some_node test e = list_any test (nodes_of e)

-- whether a node itself breaks at one of these rows by this cause
abbrev pub breaks_at_some : Cause → Ty → Slots → List Val → Tree → Bool
breaks_at_some c t slots rows n = list_any (λ row. breaks_by c t slots row n) rows

-- whether some node of an expression, asked or not, breaks at one of these rows by this cause
abbrev pub some_node_breaks : Cause → Ty → Slots → List Val → Tree → Bool
some_node_breaks c t slots rows e = some_node (breaks_at_some c t slots rows) e
