-- Equality of lists of truths.
use Rattle.std.specs.Prelude.{◌≡◌, Bool, true, false, Option, Some, None, List, refl, Decides}
use Rattle.std.proofs.Common.{subst}
use Rattle.std.specs.Cmp.{IsEquivalence, decided}
use Rattle.std.specs.Cmp.Lexicographic.{pointwise}
use Rattle.std.proofs.lemmas.Slice.Eq.{slice_eq-Decides}

-- whether two truths are one
abbrev pub truth_eq : Option Bool → Option Bool → Bool
truth_eq None None = true
truth_eq (Some true) (Some true) = true
truth_eq (Some false) (Some false) = true
truth_eq _ _ = false

-- whether two lists have the same truths
abbrev pub truths_eq : List (Option Bool) → List (Option Bool) → Bool
truths_eq ts us = pointwise truth_eq ts us

truth_eq-same : (t u : Option Bool) → truth_eq t u ≡ true → t ≡ u
truth_eq-same None None e = refl
truth_eq-same None (Some b) e = cc
truth_eq-same (Some true) (Some true) e = refl
truth_eq-same (Some false) (Some false) e = refl
truth_eq-same (Some true) (Some false) e = cc
truth_eq-same (Some false) (Some true) e = cc
truth_eq-same (Some true) None e = cc
truth_eq-same (Some false) None e = cc

truth_eq-own : (t : Option Bool) → truth_eq t t ≡ true
truth_eq-own None = refl
truth_eq-own (Some true) = refl
truth_eq-own (Some false) = refl

truth_decides : (t u : Option Bool) → Decides (truth_eq t u) (t ≡ u)
truth_decides t u = (truth_eq-same t u, λ e. subst (λ v. truth_eq t v ≡ true) e (truth_eq-own t))

pub truths_decides : (ts us : List (Option Bool)) → Decides (truths_eq ts us) (ts ≡ us)
truths_decides ts us = slice_eq-Decides truth_decides ts us (pointwise truth_eq ts us) refl

pub truths_eq_equiv : IsEquivalence truths_eq
truths_eq_equiv = decided truths_eq truths_decides
