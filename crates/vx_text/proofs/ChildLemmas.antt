-- The children of a node, by their places.
use Rattle.std.proofs.Common.{◌≡◌, ap, ◌∙◌, ℕ, zero, suc, ◌+◌, ◌<◌, arith, List, [], ◌∷◌, drop, take, Some}
use Rattle.std.specs.List.{slice_get}
use Rattle.std.proofs.lemmas.List.{drop_more}
use Rattle.std.proofs.lemmas.Option.{slice_get_within, get_or_from_slice_get, none-some}
use Rattle.vx_expr.specs.Trees.{Tree}

-- the children from a place on are the one there and those behind it
pub left_step : (cs : List Tree) (i : ℕ) (c : Tree) → slice_get cs i ≡ Some c → drop i cs ≡ c ∷ drop (i + 1) cs
left_step cs i c at = drop_more cs i c (slice_get_within cs i c at) ∙ ap (λ d. d ∷ drop (i + 1) cs) (get_or_from_slice_get cs i c c at)

-- a child among the first ones
pub among_first : (n : ℕ) (cs : List Tree) (i : ℕ) (c : Tree) → i < n → slice_get cs i ≡ Some c → slice_get (take n cs) i ≡ Some c
among_first zero cs i c within at = absurd (omega (arith, within))
among_first (suc n) [] i c within at = absurd (none-some c at)
among_first (suc n) (d ∷ cs) zero c within at = at
among_first (suc n) (d ∷ cs) (suc i) c within at = among_first n cs i c (omega (arith, within)) at
