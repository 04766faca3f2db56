-- Statistics beside their paths, one after another.
use Rattle.std.proofs.Common.{◌≡◌, ℕ, zero, suc, ◌+◌, ◌<◌, refl, ap, sym, ◌∙◌, List, [], ◌∷◌, map, length, get_or, arith}
use Rattle.std.proofs.lemmas.List.{length-map}
use Rattle.vx_dtype.specs.Types.{Bytes}
use Rattle.vx_request.specs.RequestViews.{stat_view}
use Rattle.vx_request.specs.declared.request_members.Statistic.{Statistic}

-- there are as many
pub as_many_paths : (stats : List Statistic) (paths : List (List Bytes)) → paths ≡ map (λ s. s.path) (map stat_view stats) → length paths ≡ length stats
as_many_paths stats paths e = ap length e ∙ length-map (map stat_view stats) _ ∙ length-map stats stat_view

-- the path at a place is that of the statistic there
pub path_at : (stats : List Statistic) (paths : List (List Bytes)) (i : ℕ) (s : Statistic) (p : List Bytes) → i < length stats → s ≡ get_or stats i s → p ≡ get_or paths i p
    → paths ≡ map (λ s. s.path) (map stat_view stats) → p ≡ (stat_view s).path
path_at stats paths i s p lt here there e = there ∙ ap (λ (ps : List (List Bytes)). get_or ps i p) e ∙ at-place stats i lt ∙ sym (ap (λ (z : Statistic). (stat_view z).path) here)
  where
    at-place : (ss : List Statistic) (j : ℕ) → j < length ss → get_or (map (λ z. z.path) (map stat_view ss)) j p ≡ (stat_view (get_or ss j s)).path
    at-place [] j h = absurd (omega (arith, h))
    at-place (z ∷ ss) zero h = refl
    at-place (z ∷ ss) (suc j) h = at-place ss j (omega (arith, h))
