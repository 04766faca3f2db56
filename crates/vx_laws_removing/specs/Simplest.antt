-- The form that simplifying by types leaves, and that it leaves as it is.
use Rattle.std.specs.Prelude.{◌≡◌, Bool, true, false, ◌&&◌, Ok}
use Rattle.vx_dtype.specs.Types.{Ty}
use Rattle.vx_expr.specs.Trees.{Tree, root, literal, get_item, binary, not_of, is_null_of, like, between, cast, list_contains, pack, merge, select, dynamic}
use Rattle.vx_expr.specs.Trees.{Trees, no_trees, tree}
use Rattle.vx_passes.specs.Ranges.{ranged}
use Rattle.vx_passes.specs.Simplifying.{simplified}
use Rattle.vx_passes.specs.Selecting.{without_select}
use Rattle.vx_passes.specs.Merging.{without_merge}
use Rattle.vx_passes.specs.TypedSimplifying.{simplified_typed}

unfoldable mutual
  -- whether each node below an expression passes a test
  pub nodes_below : (Tree → Bool) → Tree → Bool
  nodes_below test root = true
  nodes_below test (literal s) = true
  nodes_below test (get_item f e) = test e && nodes_below test e
  nodes_below test (binary l op r) = (test l && nodes_below test l) && (test r && nodes_below test r)
  nodes_below test (not_of e) = test e && nodes_below test e
  nodes_below test (is_null_of e) = test e && nodes_below test e
  nodes_below test (like e p negated fold_case) = (test e && nodes_below test e) && (test p && nodes_below test p)
  nodes_below test (between e lower upper options) =
      (test e && nodes_below test e) && ((test lower && nodes_below test lower) && (test upper && nodes_below test upper))
  nodes_below test (cast e t) = test e && nodes_below test e
  nodes_below test (list_contains l v) = (test l && nodes_below test l) && (test v && nodes_below test v)
  nodes_below test (pack names es n) = nodes_in test es
  nodes_below test (merge es n) = nodes_in test es
  nodes_below test (select s e) = test e && nodes_below test e
  nodes_below test (dynamic e op k t default) = test e && nodes_below test e

  -- the same of the nodes in a list of expressions
  pub nodes_in : (Tree → Bool) → Trees → Bool
  nodes_in test no_trees = true
  nodes_in test (tree e es) = (test e && nodes_below test e) && nodes_in test es

-- whether each node of an expression passes a test
abbrev pub all_nodes : (Tree → Bool) → Tree → Bool
all_nodes test e = test e && nodes_below test e

-- whether a node is no select, no merge and no field straight on a pack
abbrev pub is_simple : Tree → Bool
is_simple (get_item f (pack names es n)) = false
is_simple (merge es n) = false
is_simple (select s e) = false
is_simple _ = true

-- an expression that was simplified by types has such nodes alone
abbrev pub SimplifiedNodesAreSimple : Type 0
SimplifiedNodesAreSimple = (t : Ty) (e d : Tree) → simplified_typed t e ≡ Ok d → all_nodes is_simple d ≡ true

-- and simplified again it stays as it is
abbrev pub SimplifiedStays : Type 0
SimplifiedStays = (t : Ty) (e d : Tree) → simplified_typed t e ≡ Ok d → simplified_typed t d ≡ Ok d

-- each pass leaves as it is what it made of any expression: the one that takes fields from packs and finds ranges, finding ranges alone, and the removals
-- of selects and of merges
abbrev pub SimplifiedOnceStays : Type 0
SimplifiedOnceStays = (e d : Tree) → simplified e ≡ Ok d → simplified d ≡ Ok d

abbrev pub RangesStay : Type 0
RangesStay = (e : Tree) → ranged (ranged e) ≡ ranged e

abbrev pub SelectsStayGone : Type 0
SelectsStayGone = (t : Ty) (e d : Tree) → without_select t e ≡ Ok d → without_select t d ≡ Ok d

abbrev pub MergesStayGone : Type 0
MergesStayGone = (t : Ty) (e d : Tree) → without_merge t e ≡ Ok d → without_merge t d ≡ Ok d
