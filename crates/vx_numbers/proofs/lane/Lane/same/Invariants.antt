use Rattle.std.proofs.Common.{◌≡◌, ℕ, ◌<◌, None, get_or}
use Rattle.vx_numbers.proofs.lane.Lane.same.Given as goal

abbrev pub invariant-places : goal.invariant-places
invariant-places g l = (j : ℕ) → j < l.i → get_or l.self j None ≡ get_or l.other j None
