use Rattle.std.proofs.Common.{◌≡◌, length, map, drop}
use Rattle.vx_dtype.specs.TypeViews.{type_view}
use Rattle.vx_dtype.proofs.ProjectionLemmas.{types_named, joined}
use Rattle.vx_dtype.proofs.types.StructFields.dtypes_named.Given as goal

-- what was collected, and what is left to find
abbrev pub invariant-loop-name : goal.invariant-loop-name
invariant-loop-name l =
    (length l.dtypes.items ≡ l.name-index)
    × (types_named l.names l.self ≡ joined (map type_view l.dtypes.items) (types_named (drop l.name-index l.names) l.self))
