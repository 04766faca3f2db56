-- A node with other children, and the parts of nodes that are looked up.
use Rattle.std.specs.Prelude.{◌==◌, Bool, true, false, cond, List, [], ◌∷◌, length, Option, Some, None, option_map, codes}
use Rattle.std.specs.Str.{bytes_eq}
use Rattle.vx_dtype.specs.declared.Nullability.{Nullability}
use Rattle.vx_dtype.specs.Types.{Bytes}
use Rattle.vx_dtype.specs.Values.{Typed}
use Rattle.vx_expr.specs.Trees.{Tree, root, literal, get_item, binary, not_of, is_null_of, like, between}
use Rattle.vx_expr.specs.Trees.{cast, list_contains, pack, merge, select, dynamic, Trees, tree, trees_of, listed}
use Rattle.vx_expr.specs.Packed.{Packed}

-- the elements of a list of one, of two, of three, and none of another list
abbrev pub one_of : {A : Type 0} → List A → Option A
one_of (x ∷ []) = Some x
one_of _ = None

abbrev pub two_of : {A : Type 0} → List A → Option (A × A)
two_of (x ∷ y ∷ []) = Some (x, y)
two_of _ = None

abbrev pub three_of : {A : Type 0} → List A → Option (A × A × A)
three_of (x ∷ y ∷ z ∷ []) = Some (x, y, z)
three_of _ = None

-- the value where the test holds
abbrev pub where_so : {A : Type 0} → Bool → A → Option A
where_so test x = cond test (Some x) None

-- the node with these children in place of its own; none where there are more or fewer
abbrev pub with_children_of : Tree → List Tree → Option Tree
with_children_of root cs = where_so (length cs == 0) root
with_children_of (literal s) cs = where_so (length cs == 0) (literal s)
with_children_of (get_item f e) cs = option_map (get_item f) (one_of cs)
with_children_of (binary l op r) cs = option_map (λ c. binary c.0 op c.1) (two_of cs)
with_children_of (not_of e) cs = option_map not_of (one_of cs)
with_children_of (is_null_of e) cs = option_map is_null_of (one_of cs)
with_children_of (like e p negated fold_case) cs = option_map (λ c. like c.0 c.1 negated fold_case) (two_of cs)
with_children_of (between e lower upper options) cs = option_map (λ c. between c.0 c.1 c.2 options) (three_of cs)
with_children_of (cast e t) cs = option_map (λ c. cast c t) (one_of cs)
with_children_of (list_contains l v) cs = option_map (λ c. list_contains c.0 c.1) (two_of cs)
with_children_of (pack names es n) cs = where_so (length cs == length (listed es)) (pack names (trees_of cs) n)
with_children_of (merge es n) cs = where_so (length cs == length (listed es)) (merge (trees_of cs) n)
with_children_of (select s e) cs = option_map (select s) (one_of cs)
with_children_of (dynamic e op k t default) cs = option_map (λ c. dynamic c op k t default) (one_of cs)

-- the name of a node's kind
abbrev pub id_of : Tree → Bytes
id_of root = codes "root"
id_of (literal s) = codes "literal"
id_of (get_item f e) = codes "get_item"
id_of (binary l op r) = codes "binary"
id_of (not_of e) = codes "not"
id_of (is_null_of e) = codes "is_null"
id_of (like e p negated fold_case) = codes "like"
id_of (between e lower upper options) = codes "between"
id_of (cast e t) = codes "cast"
id_of (list_contains l v) = codes "list_contains"
id_of (pack names es n) = codes "pack"
id_of (merge es n) = codes "merge"
id_of (select s e) = codes "select"
id_of (dynamic e op k t default) = codes "dynamic"

-- whether an expression is a field of a struct
abbrev pub is_get_item : Tree → Bool
is_get_item (get_item f e) = true
is_get_item _ = false

-- whether an expression is the row
abbrev pub is_root_tree : Tree → Bool
is_root_tree root = true
is_root_tree _ = false

-- the constant that an expression is
abbrev pub literal_of : Tree → Option Typed
literal_of (literal s) = Some s
literal_of _ = None

-- the struct of these names and values, where there are as many values as names
abbrev pub packed_of : List Bytes → List Tree → Nullability → Option Packed
packed_of names values n = where_so (length names == length values) (record { names = names; values = values; nullability = n })

-- the first value of this name in a pack of these names and values
abbrev pub packed_value : Bytes → List Bytes → Trees → Option Tree
packed_value f (g ∷ names) (tree e es) = cond (bytes_eq f g) (Some e) (packed_value f names es)
packed_value f _ _ = None

-- the value of a pack's first field of this name
abbrev pub packed_field : Bytes → Packed → Option Tree
packed_field f p = packed_value f p.names (trees_of p.values)
