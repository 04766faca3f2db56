-- When lists of raw values differ.
use Rattle.std.proofs.Common.{◌≡◌, ◌≢◌, suc, Bool, true, false, ◌&&◌, refl, ap, ◌∙◌, length, map, List, [], ◌∷◌}
use Rattle.vx_dtype.specs.Values.{Raw}
use Rattle.vx_dtype.specs.Equal.{raw_eq, raws_eq}
use Rattle.vx_dtype.specs.RawViews.{raws_of}

and_false : (a : Bool) → (a && false) ≡ false
and_false true = refl
and_false false = refl

module _ {A : Type 0} (see : A → Raw) where
  -- lists of other lengths differ
  pub raws_eq_lengths : (xs ys : List A) → length xs ≢ length ys → raws_eq (raws_of (map see xs)) (raws_of (map see ys)) ≡ false
  unfolding raws_eq
  raws_eq_lengths [] [] h = absurd (h refl)
  raws_eq_lengths [] (y ∷ ys) h = refl
  raws_eq_lengths (x ∷ xs) [] h = refl
  raws_eq_lengths (x ∷ xs) (y ∷ ys) h =
      ap (λ b. raw_eq (see x) (see y) && b) (raws_eq_lengths xs ys (λ m. h (ap suc m))) ∙ and_false (raw_eq (see x) (see y))
