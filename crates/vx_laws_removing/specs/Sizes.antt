-- How many nodes simplifying by types leaves.
use Rattle.std.specs.Prelude.{◌≡◌, ◌≤◌, ℕ, ◌+◌, ◌*◌, max, List, [], ◌∷◌, length, map, Ok}
use Rattle.vx_dtype.specs.Types.{Ty, struct_ty}
use Rattle.vx_dtype.specs.TypeRules.{field_names, depth_of}
use Rattle.vx_expr.specs.Trees.{Tree}
use Rattle.vx_semantics.specs.Typing.{typed_of, type_or_empty}
use Rattle.vx_semantics.specs.Nodes.{nodes_of}
use Rattle.vx_passes.specs.TypedSimplifying.{simplified_typed}

-- the number of a struct type's fields; 0 of another type
abbrev pub width_of : Ty → ℕ
width_of (struct_ty fs n) = length (field_names fs)
width_of _ = 0

-- how deep a struct type is; 0 of another type
abbrev pub struct_depth : Ty → ℕ
struct_depth (struct_ty fs n) = depth_of (struct_ty fs n)
struct_depth _ = 0

-- the types that typing an expression meets: the scope's and those of its nodes
abbrev pub types_met : Ty → Tree → List Ty
types_met t e = t ∷ map (λ n. type_or_empty (typed_of t n)) (nodes_of e)

-- the greatest of a list's measures, 0 where it is empty
abbrev pub greatest_of : (Ty → ℕ) → List Ty → ℕ
greatest_of measure [] = 0
greatest_of measure (t ∷ ts) = max (measure t) (greatest_of measure ts)

-- the most fields of a struct type that typing the expression meets, and the greatest depth of one
abbrev pub most_fields : Ty → Tree → ℕ
most_fields t e = greatest_of width_of (types_met t e)

abbrev pub greatest_depth : Ty → Tree → ℕ
greatest_depth t e = greatest_of struct_depth (types_met t e)

-- how many nodes an expression has
abbrev pub node_count : Tree → ℕ
node_count e = length (nodes_of e)

-- simplified by types a strictly typed expression of n nodes has at most n * (1 + w * (d + 2)) nodes, w the most fields of a struct type
-- that its typing meets, d the greatest depth of one
abbrev pub SimplifiedStaysSmall : Type 0
SimplifiedStaysSmall =
    (t : Ty) (e d : Tree) (u : Ty) → typed_of t e ≡ Ok u → simplified_typed t e ≡ Ok d
    → node_count d ≤ node_count e * (1 + most_fields t e * (greatest_depth t e + 2))
