use Rattle.std.proofs.Common.{◌≡◌, drop}
use Rattle.std.specs.List.{list_all}
use Rattle.vx_dtype.specs.Equal.{ty_eq}
use Rattle.vx_dtype.specs.TypeViews.{type_view}
use Rattle.vx_zones.specs.Zoning.{scalars_fit}
use Rattle.vx_zones.proofs.value_types.all_have.Given as goal

-- what is left to test
abbrev pub invariant-loop-value : goal.invariant-loop-value
invariant-loop-value l =
    (list_all (λ s. ty_eq s.ty (type_view l.fn.dtype)) l.fn.values ≡ list_all (λ s. ty_eq s.ty (type_view l.fn.dtype)) (drop l.value-index l.fn.values))
    × (scalars_fit l.fn.values ≡ scalars_fit (drop l.value-index l.fn.values))
