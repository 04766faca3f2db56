-- The instances of a filter at a block: each path, at each of its places, replaced by some constant of its type between its bounds in the block.
use Rattle.std.specs.Prelude.{ℕ, IsTrue, ◌≡◌, Some, Ok, MatchOption}
use Rattle.vx_dtype.specs.declared.CompareOperator.{CompareOperator}
use Rattle.vx_dtype.specs.declared.Stat.TheVariants.{Min, Max}
use Rattle.vx_dtype.specs.Values.{Typed, value_of}
use Rattle.vx_dtype.specs.Fits.{fits}
use Rattle.vx_expr.specs.Trees.{Tree, root, literal, get_item, binary, not_of, is_null_of, like, between, cast, list_contains, pack, merge, select, dynamic}
use Rattle.vx_expr.specs.Trees.{Trees, no_trees, tree}
use Rattle.vx_expr.specs.Operators.{range_as_binary}
use Rattle.vx_semantics.specs.Typing.{typed_of}
use Rattle.vx_semantics.specs.Tables.{Zones, row_type}
use Rattle.vx_semantics.specs.Pruning.{known_at, known_compare}
use Rattle.vx_semantics.specs.Paths.{path_of}

unfoldable mutual
  -- the expression with each range written as its two comparisons
  pub without_ranges : Tree → Tree
  without_ranges root = root
  without_ranges (literal s) = literal s
  without_ranges (get_item f e) = get_item f (without_ranges e)
  without_ranges (binary l op r) = binary (without_ranges l) op (without_ranges r)
  without_ranges (not_of e) = not_of (without_ranges e)
  without_ranges (is_null_of e) = is_null_of (without_ranges e)
  without_ranges (like e p negated fold_case) = like (without_ranges e) (without_ranges p) negated fold_case
  without_ranges (between e lower upper options) = range_as_binary (without_ranges e) (without_ranges lower) (without_ranges upper) options
  without_ranges (cast e t) = cast (without_ranges e) t
  without_ranges (list_contains l v) = list_contains (without_ranges l) (without_ranges v)
  without_ranges (pack names es n) = pack names (all_without_ranges es) n
  without_ranges (merge es n) = merge (all_without_ranges es) n
  without_ranges (select s e) = select s (without_ranges e)
  without_ranges (dynamic e op k t default) = dynamic (without_ranges e) op k t default

  -- the same of a list of expressions
  pub all_without_ranges : Trees → Trees
  all_without_ranges no_trees = no_trees
  all_without_ranges (tree e es) = tree (without_ranges e) (all_without_ranges es)

-- a constant of a path's type from its least to its greatest value in the block
pub record IsWithinBounds (zones : Zones) (block : ℕ) (e : Tree) (s : Typed) : Type 0 where
  pub of_its_type : typed_of (row_type zones.columns) e ≡ Ok s.ty
  pub is_value : IsTrue (fits s.value s.ty)
  pub not_below : IsTrue (known_compare CompareOperator.Lte (known_at zones block Min (path_of e)) (Some (value_of s)))
  pub not_above : IsTrue (known_compare CompareOperator.Lte (Some (value_of s)) (known_at zones block Max (path_of e)))

-- the expression is such a constant in place of the path
abbrev pub IsConstantFor : Zones → ℕ → Tree → Tree → Type 0
IsConstantFor zones block e i = (s : Typed) × (i ≡ literal s) × IsWithinBounds zones block e s

unfoldable mutual
  -- the second expression is the first with each path replaced by such a constant, independently of all others
  pub IsReplaced : Zones → ℕ → Tree → Tree → Type 0
  IsReplaced zones block root i = IsConstantFor zones block root i
  IsReplaced zones block (literal s) i = i ≡ literal s
  IsReplaced zones block (get_item f e) i =
      MatchOption (path_of (get_item f e)) ((d : Tree) × (i ≡ get_item f d) × IsReplaced zones block e d) (λ _. IsConstantFor zones block (get_item f e) i)
  IsReplaced zones block (binary l op r) i = (a : Tree) × (b : Tree) × (i ≡ binary a op b) × IsReplaced zones block l a × IsReplaced zones block r b
  IsReplaced zones block (not_of e) i = (d : Tree) × (i ≡ not_of d) × IsReplaced zones block e d
  IsReplaced zones block (is_null_of e) i = (d : Tree) × (i ≡ is_null_of d) × IsReplaced zones block e d
  IsReplaced zones block (like e p negated fold_case) i =
      (d : Tree) × (q : Tree) × (i ≡ like d q negated fold_case) × IsReplaced zones block e d × IsReplaced zones block p q
  IsReplaced zones block (between e lower upper options) i =
      (d : Tree) × (a : Tree) × (b : Tree) × (i ≡ between d a b options)
      × IsReplaced zones block e d × IsReplaced zones block lower a × IsReplaced zones block upper b
  IsReplaced zones block (cast e t) i = (d : Tree) × (i ≡ cast d t) × IsReplaced zones block e d
  IsReplaced zones block (list_contains l v) i =
      (a : Tree) × (b : Tree) × (i ≡ list_contains a b) × IsReplaced zones block l a × IsReplaced zones block v b
  IsReplaced zones block (pack names es n) i = (ds : Trees) × (i ≡ pack names ds n) × AreReplaced zones block es ds
  IsReplaced zones block (merge es n) i = (ds : Trees) × (i ≡ merge ds n) × AreReplaced zones block es ds
  IsReplaced zones block (select s e) i = (d : Tree) × (i ≡ select s d) × IsReplaced zones block e d
  IsReplaced zones block (dynamic e op k t default) i = (d : Tree) × (i ≡ dynamic d op k t default) × IsReplaced zones block e d

  -- the same of a list of expressions
  pub AreReplaced : Zones → ℕ → Trees → Trees → Type 0
  AreReplaced zones block no_trees is = is ≡ no_trees
  AreReplaced zones block (tree e es) is = (d : Tree) × (ds : Trees) × (is ≡ tree d ds) × IsReplaced zones block e d × AreReplaced zones block es ds

-- the second expression is an instance of the first at the block
abbrev pub IsInstance : Zones → ℕ → Tree → Tree → Type 0
IsInstance zones block e i = IsReplaced zones block (without_ranges e) i
