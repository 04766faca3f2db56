-- The text of an expression as a tree: a line for each node, its children below it, each behind a branch.
use Rattle.std.specs.Prelude.{[], ◌++◌, List, ◌∷◌, Option, Some, None, codes}
use Rattle.vx_dtype.specs.Types.{Bytes}
use Rattle.vx_expr.specs.NodeTexts.{node_text, child_names_of}
use Rattle.vx_expr.specs.Trees.{Tree, root, literal, get_item, binary, not_of, is_null_of, like, between, cast}
use Rattle.vx_expr.specs.Trees.{list_contains, pack, merge, select, dynamic, Trees, no_trees, tree}

-- the bytes of `├── `, of `└── ` and of `│   `
abbrev pub middle_branch : Bytes
middle_branch = 226 ∷ 148 ∷ 156 ∷ 226 ∷ 148 ∷ 128 ∷ 226 ∷ 148 ∷ 128 ∷ 32 ∷ []

abbrev pub last_branch : Bytes
last_branch = 226 ∷ 148 ∷ 148 ∷ 226 ∷ 148 ∷ 128 ∷ 226 ∷ 148 ∷ 128 ∷ 32 ∷ []

abbrev pub beside_branch : Bytes
beside_branch = 226 ∷ 148 ∷ 130 ∷ 32 ∷ 32 ∷ 32 ∷ []

-- the name of the next child and `: `; nothing where there is no name
abbrev pub label : List Bytes → Bytes
label [] = []
label (name ∷ names) = name ++ codes ": "

-- the names behind the first one
abbrev pub later_names : List Bytes → List Bytes
later_names [] = []
later_names (name ∷ names) = names

-- the names of the children, none where the kind has none
abbrev pub names_or_none : Option (List Bytes) → List Bytes
names_or_none None = []
names_or_none (Some names) = names

-- the names of a node's children
abbrev pub names_of : Tree → List Bytes
names_of e = names_or_none (child_names_of e)

-- the line of a child behind the prefix, with the first of these names: of one that others follow, and of the last one
abbrev pub middle_line : Bytes → List Bytes → Tree → Bytes
middle_line prefix names e = prefix ++ (middle_branch ++ (label names ++ (node_text e ++ codes "\n")))

abbrev pub last_line : Bytes → List Bytes → Tree → Bytes
last_line prefix names e = prefix ++ (last_branch ++ (label names ++ (node_text e ++ codes "\n")))

-- the prefix of what stands below a child that others follow, and below the last one
abbrev pub beside : Bytes → Bytes
beside prefix = prefix ++ beside_branch

abbrev pub under : Bytes → Bytes
under prefix = prefix ++ codes "    "

unfoldable mutual
  -- the lines below a node, behind the prefix, with the names of its children
  pub below_text : Bytes → List Bytes → Tree → Bytes
  below_text prefix names root = []
  below_text prefix names (literal s) = []
  below_text prefix names (get_item f e) = last_line prefix names e ++ below_text (under prefix) (names_of e) e
  below_text prefix names (binary l op r) =
      middle_line prefix names l ++ (below_text (beside prefix) (names_of l) l
      ++ (last_line prefix (later_names names) r ++ below_text (under prefix) (names_of r) r))
  below_text prefix names (not_of e) = last_line prefix names e ++ below_text (under prefix) (names_of e) e
  below_text prefix names (is_null_of e) = last_line prefix names e ++ below_text (under prefix) (names_of e) e
  below_text prefix names (like e p negated fold_case) =
      middle_line prefix names e ++ (below_text (beside prefix) (names_of e) e
      ++ (last_line prefix (later_names names) p ++ below_text (under prefix) (names_of p) p))
  below_text prefix names (between e lower upper options) =
      middle_line prefix names e ++ (below_text (beside prefix) (names_of e) e
      ++ (middle_line prefix (later_names names) lower ++ (below_text (beside prefix) (names_of lower) lower
      ++ (last_line prefix (later_names (later_names names)) upper ++ below_text (under prefix) (names_of upper) upper))))
  below_text prefix names (cast e t) = last_line prefix names e ++ below_text (under prefix) (names_of e) e
  below_text prefix names (list_contains l v) =
      middle_line prefix names l ++ (below_text (beside prefix) (names_of l) l
      ++ (last_line prefix (later_names names) v ++ below_text (under prefix) (names_of v) v))
  below_text prefix names (pack fields es n) = list_below prefix names es
  below_text prefix names (merge es n) = list_below prefix names es
  below_text prefix names (select s e) = last_line prefix names e ++ below_text (under prefix) (names_of e) e
  below_text prefix names (dynamic e op k t default) = last_line prefix names e ++ below_text (under prefix) (names_of e) e

  -- the lines of the children of a list
  pub list_below : Bytes → List Bytes → Trees → Bytes
  list_below prefix names no_trees = []
  list_below prefix names (tree e no_trees) = last_line prefix names e ++ below_text (under prefix) (names_of e) e
  list_below prefix names (tree e (tree d ds)) =
      middle_line prefix names e ++ (below_text (beside prefix) (names_of e) e ++ list_below prefix (later_names names) (tree d ds))

-- the line of the root, and the lines below it
abbrev pub tree_text_of : Tree → Bytes
tree_text_of e = node_text e ++ (codes "\n" ++ below_text [] (names_of e) e)
