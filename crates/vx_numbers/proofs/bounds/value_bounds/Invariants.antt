use Rattle.std.proofs.Common.{◌≡◌, Some, drop, map}
use Rattle.vx_dtype.specs.declared.CompareOperator.TheVariants.{Gte, Lte}
use Rattle.vx_numbers.specs.Bounds.{first_number, least_number, greatest_number}
use Rattle.vx_numbers.proofs.bounds.value_bounds.Given as goal

-- the bounds so far, beside the bounds of the values from the place on, give those of all
abbrev pub invariant-values : goal.invariant-values
invariant-values g l =
    (first_number Lte (Some (g.T.Width.value l.least)) (least_number (drop l.i (map (λ x. Some (g.T.Width.value x)) l.values)))
    ≡ least_number (map (λ x. Some (g.T.Width.value x)) l.values))
    × (first_number Gte (Some (g.T.Width.value l.greatest)) (greatest_number (drop l.i (map (λ x. Some (g.T.Width.value x)) l.values)))
    ≡ greatest_number (map (λ x. Some (g.T.Width.value x)) l.values))
