-- Paths: a chain of field accesses over the row names a path, and a path has a value at each row.
use Rattle.std.specs.Prelude.{List, [], ◌∷◌, ◌++◌, Option, Some, None, option_map}
use Rattle.vx_dtype.specs.Types.{Bytes}
use Rattle.vx_dtype.specs.Values.{Val}
use Rattle.vx_dtype.specs.Structs.{field_of}
use Rattle.vx_expr.specs.Trees.{Tree, root, get_item}

-- the names from the row on of a chain of field accesses over the row, none where the expression is no such chain
abbrev pub path_of : Tree → Option (List Bytes)
path_of root = Some []
path_of (get_item f e) = option_map (λ names. names ++ f ∷ []) (path_of e)
path_of _ = None

-- the value of a path at a row: the field of the field, from the row on
abbrev pub path_value : List Bytes → Val → Val
path_value [] v = v
path_value (f ∷ fs) v = path_value fs (field_of f v)
