use Rattle.std.proofs.Common.{◌≡◌, drop, map}
use Rattle.std.specs.Option.{option_map}
use Rattle.vx_dtype.specs.declared.CompareOperator.TheVariants.{Gte, Lte}
use Rattle.vx_numbers.specs.Bounds.{first_number, least_number, greatest_number}
use Rattle.vx_numbers.specs.Lanes.{numbers_of}
use Rattle.vx_numbers.proofs.bounds.known_bounds.Given as goal

-- the bounds so far, beside the bounds of the numbers from the place on, give those of all
abbrev pub invariant-places : goal.invariant-places
invariant-places g l =
    (first_number Lte (option_map g.T.Width.value l.least) (least_number (drop l.i (numbers_of l.valid (map g.T.Width.value l.values))))
    ≡ least_number (numbers_of l.valid (map g.T.Width.value l.values)))
    × (first_number Gte (option_map g.T.Width.value l.greatest) (greatest_number (drop l.i (numbers_of l.valid (map g.T.Width.value l.values))))
    ≡ greatest_number (numbers_of l.valid (map g.T.Width.value l.values)))
