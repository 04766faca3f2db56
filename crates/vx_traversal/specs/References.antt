-- The names that an expression refers to: those of its field accesses and of its selections.
use Rattle.std.specs.Prelude.{◌≡◌, List, [], ◌∷◌, ◌++◌, ◌||◌, Result, Ok, Err, ⊤}
use Rattle.std.specs.HashSet.{HashSet, contains}
use Rattle.std.specs.Str.{bytes_eq}
use Rattle.vx_dtype.specs.Types.{Bytes}
use Rattle.vx_dtype.specs.TypeRules.{has_name}
use Rattle.vx_expr.specs.Selections.{listed_names}
use Rattle.vx_traversal.specs.declared.order.TraversalOrder.{TraversalOrder}
use Rattle.vx_traversal.specs.declared.order.TraversalOrder.TheVariants.{Continue}
use Rattle.vx_expr.specs.Trees.{Tree, root, literal, get_item, binary, not_of, is_null_of, like, between, cast, list_contains, pack, merge, select}
use Rattle.vx_expr.specs.Trees.{dynamic, Trees, no_trees, tree}

-- the names that the node alone refers to: those of an access to a field and of a selection
abbrev pub own_names : Tree → List Bytes
own_names (get_item f e) = f ∷ []
own_names (select s e) = listed_names s
own_names _ = []

abbrev mutual
  -- the names that an expression refers to, in the order of a walk from the top
  pub reference_names : Tree → List Bytes
  reference_names root = []
  reference_names (literal s) = []
  reference_names (get_item f e) = f ∷ reference_names e
  reference_names (binary l op r) = reference_names l ++ reference_names r
  reference_names (not_of e) = reference_names e
  reference_names (is_null_of e) = reference_names e
  reference_names (like e p negated fold_case) = reference_names e ++ reference_names p
  reference_names (between e lower upper options) = reference_names e ++ (reference_names lower ++ reference_names upper)
  reference_names (cast e t) = reference_names e
  reference_names (list_contains l v) = reference_names l ++ reference_names v
  reference_names (pack names es n) = names_in es
  reference_names (merge es n) = names_in es
  reference_names (select s e) = listed_names s ++ reference_names e
  reference_names (dynamic e op k t default) = reference_names e

  -- the same of expressions in order
  pub names_in : Trees → List Bytes
  names_in no_trees = []
  names_in (tree e es) = reference_names e ++ names_in es

-- a set has exactly these names
abbrev pub HasExactly : {S : Type 0} → List Bytes → HashSet Bytes S → Type 0
HasExactly names set = (name : Bytes) → contains bytes_eq set name ≡ has_name name names

-- what is held after holds what was held before, and these names
abbrev pub AddsNames : List Bytes → List Bytes → List Bytes → Type 0
AddsNames names before after = (name : Bytes) → has_name name after ≡ (has_name name before || has_name name names)

-- the step that adds these names and goes on; after want of memory nothing is said
abbrev pub Collects : {E : Type 0} → List Bytes → List Bytes → Result TraversalOrder E → List Bytes → Type 0
Collects names before (Ok order) after = (order ≡ Continue) × AddsNames names before after
Collects names before (Err e) after = ⊤
