use Rattle.std.proofs.Common.{◌≡◌, map, take, true}
use Rattle.vx_numbers.specs.Numbers.{all_in_range}
use Rattle.vx_numbers.specs.Lanes.{numbers_of, AreTidyNumbers}
use Rattle.vx_numbers.proofs.lane.Lane.cast.Given as goal

abbrev pub invariant-places : goal.invariant-places
invariant-places g l =
    AreTidyNumbers l.valid.items (map g.U.Width.value l.values.items)
    × (numbers_of l.valid.items (map g.U.Width.value l.values.items) ≡ take l.i l.self)
    × (all_in_range g.U.Width.ptype (take l.i l.self) ≡ true)
