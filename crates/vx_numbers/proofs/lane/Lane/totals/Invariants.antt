use Rattle.std.proofs.Common.{◌≡◌, map, take, true}
use Rattle.std.specs.Simd.Lanes.{zip2}
use Rattle.vx_numbers.specs.Numbers.{on_both, all_in_range}
use Rattle.vx_numbers.specs.Lanes.{numbers_of, AreTidyNumbers}
use Rattle.vx_numbers.proofs.lane.Lane.totals.Given as goal

abbrev pub invariant-places : goal.invariant-places
invariant-places g l =
    AreTidyNumbers l.valid.items (map g.T.Width.value l.values.items)
    × (numbers_of l.valid.items (map g.T.Width.value l.values.items) ≡ take l.i (zip2 (on_both g.O.Total.rule) l.self l.other))
    × (all_in_range g.T.Width.ptype (take l.i (zip2 (on_both g.O.Total.rule) l.self l.other)) ≡ true)
