use Rattle.std.proofs.Common.{◌≡◌, map}
use Rattle.vx_dtype.specs.TypeViews.{type_view}
use Rattle.vx_sql.specs.SelectLists.{named_view}
use Rattle.vx_sql.proofs.select_lists.packed.Given as goal

-- the names, types and expressions of those that were gone over
abbrev pub invariant-loop-name : goal.invariant-loop-name
invariant-loop-name l =
    (l.names.items ≡ map (λ x. x.0) (map named_view l.yielded))
    × (map type_view l.dtypes.items ≡ map (λ x. x.1.ty) (map named_view l.yielded))
    × (map (λ x. x.0) l.elements.items ≡ map (λ x. x.0) (map named_view l.yielded))
    × (map (λ x. x.1) l.elements.items ≡ map (λ x. x.1.tree) (map named_view l.yielded))
