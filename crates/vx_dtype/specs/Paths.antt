-- Paths of fields: the names from the root on, and sets of paths in order of insertion.
use Rattle.std.specs.Prelude.{Bool, true, ◌&&◌, not, List, [], ◌∷◌, ◌++◌, cond}
use Rattle.std.specs.List.{list_any}
use Rattle.vx_dtype.specs.Types.{Bytes}
use Rattle.vx_dtype.specs.Equal.{names_eq}

-- whether a path is among these
abbrev pub has_path : List Bytes → List (List Bytes) → Bool
has_path p ps = list_any (λ q. names_eq q p) ps

-- whether no path is among these twice
abbrev pub distinct_paths : List (List Bytes) → Bool
distinct_paths [] = true
distinct_paths (p ∷ ps) = not (has_path p ps) && distinct_paths ps

-- the paths with one more at their end, where it wasn't among them
abbrev pub with_path : List Bytes → List (List Bytes) → List (List Bytes)
with_path p ps = cond (has_path p ps) ps (ps ++ p ∷ [])
