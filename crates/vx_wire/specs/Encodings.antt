-- The kinds of expressions in the wire form, and their names.
use Rattle.std.specs.Prelude.{ℕ, ◌==◌, Bool, true, false, List, [], ◌∷◌, Option, codes}
use Rattle.std.specs.List.{find}
use Rattle.std.specs.Str.{bytes_eq}
use Rattle.vx_dtype.specs.Types.{Bytes}
use Rattle.vx_expr.specs.Trees.{Tree, root, literal, get_item, binary, not_of, is_null_of, like, between, cast, list_contains, pack, merge, select, dynamic}
use Rattle.vx_wire.specs.declared.encodings.ExprEncoding.{ExprEncoding}
use Rattle.vx_wire.specs.declared.encodings.ExprEncoding.TheVariants as kinds

-- the kind of an expression
abbrev pub encoding_of : Tree → ExprEncoding
encoding_of (between e lower upper options) = kinds.Between
encoding_of (binary l op r) = kinds.Binary
encoding_of (cast e t) = kinds.Cast
encoding_of (dynamic e op k t default) = kinds.Dynamic
encoding_of (get_item f e) = kinds.GetItem
encoding_of (is_null_of e) = kinds.IsNull
encoding_of (like e p negated fold_case) = kinds.Like
encoding_of (list_contains l v) = kinds.ListContains
encoding_of (literal s) = kinds.Literal
encoding_of (merge es n) = kinds.Merge
encoding_of (not_of e) = kinds.Not
encoding_of (pack names es n) = kinds.Pack
encoding_of root = kinds.Root
encoding_of (select s e) = kinds.Select

-- the name of a kind
abbrev pub encoding_id : ExprEncoding → Bytes
encoding_id kinds.Between = codes "between"
encoding_id kinds.Binary = codes "binary"
encoding_id kinds.Cast = codes "cast"
encoding_id kinds.Dynamic = codes "dynamic"
encoding_id kinds.GetItem = codes "get_item"
encoding_id kinds.IsNull = codes "is_null"
encoding_id kinds.Like = codes "like"
encoding_id kinds.ListContains = codes "list_contains"
encoding_id kinds.Literal = codes "literal"
encoding_id kinds.Merge = codes "merge"
encoding_id kinds.Not = codes "not"
encoding_id kinds.Pack = codes "pack"
encoding_id kinds.Root = codes "root"
encoding_id kinds.Select = codes "select"

-- all kinds, in the order of their names
abbrev pub all_kinds : List ExprEncoding
all_kinds =
    kinds.Between
    ∷ kinds.Binary
    ∷ kinds.Cast
    ∷ kinds.Dynamic
    ∷ kinds.GetItem
    ∷ kinds.IsNull
    ∷ kinds.Like
    ∷ kinds.ListContains
    ∷ kinds.Literal
    ∷ kinds.Merge
    ∷ kinds.Not
    ∷ kinds.Pack
    ∷ kinds.Root
    ∷ kinds.Select
    ∷ []

-- the kind of a name, where there is one
unfoldable pub kind_named : Bytes → Option ExprEncoding
kind_named id = find (λ e. bytes_eq id (encoding_id e)) all_kinds

-- the place of a kind in the order of the names
abbrev pub kind_place : ExprEncoding → ℕ
kind_place kinds.Between = 0
kind_place kinds.Binary = 1
kind_place kinds.Cast = 2
kind_place kinds.Dynamic = 3
kind_place kinds.GetItem = 4
kind_place kinds.IsNull = 5
kind_place kinds.Like = 6
kind_place kinds.ListContains = 7
kind_place kinds.Literal = 8
kind_place kinds.Merge = 9
kind_place kinds.Not = 10
kind_place kinds.Pack = 11
kind_place kinds.Root = 12
kind_place kinds.Select = 13

-- whether two kinds are the same
abbrev pub same_kind : ExprEncoding → ExprEncoding → Bool
same_kind a b = kind_place a == kind_place b

-- the kinds that expressions are built of by default: all but dynamic comparisons
abbrev pub is_default_kind : ExprEncoding → Bool
is_default_kind kinds.Dynamic = false
is_default_kind _ = true
