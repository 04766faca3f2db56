use Rattle.std.proofs.Common.{◌≡◌, ℕ, ◌<◌, None, get_or}
use Rattle.vx_texts.proofs.texts.same_texts.Given as goal

abbrev pub invariant-places : goal.invariant-places
invariant-places l = (j : ℕ) → j < l.i → get_or l.left j None ≡ get_or l.right j None
