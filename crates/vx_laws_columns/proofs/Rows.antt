-- The columns that an expression touches, and its nodes where the row stands only straight below fields.
use Rattle.std.proofs.Common.{◌≡◌, refl, ap, true, false, cond, ◌&&◌, List, [], ◌∷◌, ◌++◌}
use Rattle.std.specs.List.{flat_map, AllByRecursion}
use Rattle.std.proofs.lemmas.Bool.{and_parts}
use Rattle.vx_dtype.specs.Types.{Bytes}
use Rattle.vx_expr.specs.Children.{is_root_tree}
use Rattle.vx_expr.specs.Trees.{Tree, root, literal, get_item, binary, not_of, is_null_of, like, between, cast, list_contains, pack, merge, select, dynamic, Trees, no_trees, tree, listed, children_of}
use Rattle.vx_laws.proofs.EachNode.{one-flat, two-flat, three-flat}
use Rattle.vx_laws_parts.specs.Preserved.{rowless, all_rowless}
use Rattle.vx_laws_parts.proofs.Shown.{is_of_row}

-- a field, where its struct is the row
abbrev pub own_column : Bytes → Tree → List Bytes
own_column f e = cond (is_root_tree e) (f ∷ []) []

unfoldable mutual
  -- the fields of the row in an expression, in order
  pub columns_in : Tree → List Bytes
  columns_in root = []
  columns_in (literal s) = []
  columns_in (get_item f e) = own_column f e ++ columns_in e
  columns_in (binary l op r) = columns_in l ++ columns_in r
  columns_in (not_of e) = columns_in e
  columns_in (is_null_of e) = columns_in e
  columns_in (like e p negated fold_case) = columns_in e ++ columns_in p
  columns_in (between e lower upper options) = columns_in e ++ (columns_in lower ++ columns_in upper)
  columns_in (cast e t) = columns_in e
  columns_in (list_contains l v) = columns_in l ++ columns_in v
  columns_in (pack names es n) = columns_in_all es
  columns_in (merge es n) = columns_in_all es
  columns_in (select s e) = columns_in e
  columns_in (dynamic e op k t default) = columns_in e

  pub columns_in_all : Trees → List Bytes
  columns_in_all no_trees = []
  columns_in_all (tree e es) = columns_in e ++ columns_in_all es

-- the row, a field of it, and any other node
pub data Form (e : Tree) : Type 0 where
  is_row : e ≡ root → Form e
  is_column : (f : Bytes) → e ≡ get_item f root → Form e
  is_other : is_of_row e ≡ false → Form e

pub form : (e : Tree) → Form e
form root = is_row refl
form (get_item f root) = is_column f refl
form _ = is_other refl

listed-columns : (es : Trees) → columns_in_all es ≡ flat_map columns_in (listed es)
unfolding columns_in
listed-columns no_trees = refl
listed-columns (tree e es) = ap (λ (cs : List Bytes). columns_in e ++ cs) (listed-columns es)

pub columns-by_children : (e : Tree) → is_of_row e ≡ false → columns_in e ≡ flat_map columns_in (children_of e)
unfolding columns_in
columns-by_children root h = refl
columns-by_children (literal s) h = refl
columns-by_children (get_item f root) h = let no : ⊥ = cc in absurd no
columns-by_children (get_item f e) h = one-flat columns_in e
columns-by_children (binary l op r) h = two-flat columns_in l r
columns-by_children (not_of e) h = one-flat columns_in e
columns-by_children (is_null_of e) h = one-flat columns_in e
columns-by_children (like e p negated fold_case) h = two-flat columns_in e p
columns-by_children (between e lower upper options) h = three-flat columns_in e lower upper
columns-by_children (cast e t) h = one-flat columns_in e
columns-by_children (list_contains l v) h = two-flat columns_in l v
columns-by_children (pack names es n) h = listed-columns es
columns-by_children (merge es n) h = listed-columns es
columns-by_children (select s e) h = one-flat columns_in e
columns-by_children (dynamic e op k t default) h = one-flat columns_in e

abbrev pub IsRowless : Tree → Type 0
IsRowless e = rowless e ≡ true

listed-rowless : (es : Trees) → all_rowless es ≡ true → AllByRecursion IsRowless (listed es)
unfolding rowless
listed-rowless no_trees h = tt
listed-rowless (tree e es) h = let p = and_parts (rowless e) (all_rowless es) h in (p.0, listed-rowless es p.1)

pub children-rowless : (e : Tree) → is_of_row e ≡ false → IsRowless e → AllByRecursion IsRowless (children_of e)
unfolding rowless
children-rowless root h k = tt
children-rowless (literal s) h k = tt
children-rowless (get_item f root) h k = let no : ⊥ = cc in absurd no
children-rowless (get_item f e) h k = (k, tt)
children-rowless (binary l op r) h k = let p = and_parts (rowless l) (rowless r) k in (p.0, (p.1, tt))
children-rowless (not_of e) h k = (k, tt)
children-rowless (is_null_of e) h k = (k, tt)
children-rowless (like e p negated fold_case) h k = let q = and_parts (rowless e) (rowless p) k in (q.0, (q.1, tt))
children-rowless (between e lower upper options) h k =
    let p = and_parts (rowless e) (rowless lower && rowless upper) k in
    let q = and_parts (rowless lower) (rowless upper) p.1 in
    (p.0, (q.0, (q.1, tt)))
children-rowless (cast e t) h k = (k, tt)
children-rowless (list_contains l v) h k = let p = and_parts (rowless l) (rowless v) k in (p.0, (p.1, tt))
children-rowless (pack names es n) h k = listed-rowless es k
children-rowless (merge es n) h k = listed-rowless es k
children-rowless (select s e) h k = (k, tt)
children-rowless (dynamic e op k' t default) h k = (k, tt)

pub row-not-rowless : IsRowless root → ⊥
unfolding rowless
row-not-rowless h = cc

pub column-rowless : (f : Bytes) → IsRowless (get_item f root)
unfolding rowless
column-rowless f = refl

pub column-alone : (f : Bytes) → columns_in (get_item f root) ≡ f ∷ []
unfolding columns_in
column-alone f = refl
