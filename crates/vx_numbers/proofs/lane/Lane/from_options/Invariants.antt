use Rattle.std.proofs.Common.{◌≡◌, map, take}
use Rattle.vx_numbers.specs.Lanes.{numbers_of, AreTidyNumbers}
use Rattle.vx_numbers.proofs.lane.Lane.from_options.Given as goal

abbrev pub invariant-loop-i : goal.invariant-loop-i
invariant-loop-i g l =
    AreTidyNumbers l.valid.items (map g.T.Width.value l.values.items)
    × (numbers_of l.valid.items (map g.T.Width.value l.values.items) ≡ take l.i l.numbers)
