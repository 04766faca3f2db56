-- What an expression asks by path: the nodes whose values its answer can hang on, and the columns that it touches.
use Rattle.std.specs.Prelude.{Bool, cond, List, [], ◌∷◌, ◌++◌, map, option_map, unwrap_or}
use Rattle.std.specs.List.{flat_map, filter, list_any}
use Rattle.std.specs.Str.{bytes_eq}
use Rattle.vx_dtype.specs.Types.{Bytes, Ty}
use Rattle.vx_dtype.specs.TypeRules.{has_name}
use Rattle.vx_dtype.specs.Values.{Val}
use Rattle.vx_expr.specs.Trees.{Tree, root, literal, get_item, binary, not_of, is_null_of, like, between, cast, list_contains, pack, merge, select, dynamic}
use Rattle.vx_expr.specs.Trees.{Trees, no_trees, tree}
use Rattle.vx_semantics.specs.Merging.{merged_names, last_giver}
use Rattle.vx_semantics.specs.Typing.{names_in, given_names}
use Rattle.vx_semantics.specs.Meaning.{Slots}
use Rattle.vx_semantics.specs.Breaks.{breaks}

-- a node or a column that is asked
pub data Asking : Type 0 where
  asks_node : Tree → Asking
  asks_column : Bytes → Asking

-- the row itself asks the column that its path begins with, and for the empty path all columns
abbrev pub root_asks : Ty → List Bytes → List Asking
root_asks t [] = map asks_column (names_in t)
root_asks t (c ∷ path) = asks_column c ∷ []

-- what is asked for each of the names, where `ask` says what is asked for a path
abbrev pub each_asked : (List Bytes → List Asking) → List Bytes → List Asking
each_asked ask [] = []
each_asked ask (f ∷ fs) = ask (f ∷ []) ++ each_asked ask fs

-- what is asked for a path, or for the empty path for each of the names
abbrev pub path_or_each : (List Bytes → List Asking) → List Bytes → List Bytes → List Asking
path_or_each ask names [] = each_asked ask names
path_or_each ask names (f ∷ path) = ask (f ∷ path)

-- a struct that goes into a merge: the names of its type, and what it is asked for a path
pub record Giver : Type 0 where
  pub names : List Bytes
  pub asks : List Bytes → List Asking

-- the names that a struct gives
abbrev pub giver_names : Giver → List Bytes
giver_names g = g.names

-- of a merge's structs, the last one that gives the first name of the path is asked for the path
abbrev pub asked_of_giver : List Giver → List Bytes → List Asking
asked_of_giver gs [] = []
asked_of_giver gs (f ∷ path) = unwrap_or (option_map (λ g. g.asks (f ∷ path)) (last_giver giver_names f gs)) []

unfoldable mutual
  -- what an expression over the table's type asks for a path: itself, and what its children are asked for
  pub asked : Ty → Tree → List Bytes → List Asking
  asked t root path = root_asks t path
  asked t (literal s) path = asks_node (literal s) ∷ []
  asked t (get_item f e) path = asks_node (get_item f e) ∷ asked t e (f ∷ path)
  asked t (binary l op r) path = asks_node (binary l op r) ∷ (asked t l [] ++ asked t r [])
  asked t (not_of e) path = asks_node (not_of e) ∷ asked t e []
  asked t (is_null_of e) path = asks_node (is_null_of e) ∷ asked t e []
  asked t (like e p negated fold_case) path = asks_node (like e p negated fold_case) ∷ (asked t e [] ++ asked t p [])
  asked t (between e lower upper options) path =
      asks_node (between e lower upper options) ∷ (asked t e [] ++ (asked t lower [] ++ asked t upper []))
  asked t (cast e target) path = asks_node (cast e target) ∷ asked t e []
  asked t (list_contains l v) path = asks_node (list_contains l v) ∷ (asked t l [] ++ asked t v [])
  asked t (pack names es n) path = asks_node (pack names es n) ∷ asked_in_pack t names es path
  asked t (merge es n) path =
      asks_node (merge es n) ∷ path_or_each (asked_of_giver (givers t es)) (merged_names giver_names (givers t es)) path
  asked t (select s e) path = asks_node (select s e) ∷ path_or_each (asked t e) (given_names t (select s e)) path
  asked t (dynamic e op k slot default) path = asks_node (dynamic e op k slot default) ∷ asked t e []

  -- of a pack's values: for the empty path each is asked, for a path that begins with a name the first one of that name, for the rest
  pub asked_in_pack : Ty → List Bytes → Trees → List Bytes → List Asking
  asked_in_pack t names no_trees path = []
  asked_in_pack t [] (tree e es) path = []
  asked_in_pack t (f ∷ names) (tree e es) [] = asked t e [] ++ asked_in_pack t names es []
  asked_in_pack t (f ∷ names) (tree e es) (g ∷ path) = cond (bytes_eq g f) (asked t e path) (asked_in_pack t names es (g ∷ path))

  -- the structs that go into a merge
  pub givers : Ty → Trees → List Giver
  givers t no_trees = []
  givers t (tree e es) = record { names = given_names t e; asks = asked t e } ∷ givers t es

-- the nodes, and the columns, of what is asked
abbrev pub node_in : Asking → List Tree
node_in (asks_node e) = e ∷ []
node_in (asks_column c) = []

abbrev pub column_in : Asking → List Bytes
column_in (asks_node e) = []
column_in (asks_column c) = c ∷ []

-- the nodes that an expression asks
abbrev pub asked_nodes : Ty → Tree → List Tree
asked_nodes t e = flat_map node_in (asked t e [])

-- the columns that an expression asks, in the table's order
abbrev pub asked_columns : Ty → Tree → List Bytes
asked_columns t e = filter (λ c. has_name c (flat_map column_in (asked t e []))) (names_in t)

-- whether an asked node of an expression breaks at a row
abbrev pub some_asked_breaks : Ty → Slots → Val → Tree → Bool
some_asked_breaks t slots row e = list_any (breaks t slots row) (asked_nodes t e)
