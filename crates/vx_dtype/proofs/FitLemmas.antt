-- Which lists of raw values are those of fields.
use Rattle.std.proofs.Common.{◌≡◌, ◌≢◌, ◌∙◌, ◌<◌, ℕ, suc, ◌+◌, Bool, true, false, ◌&&◌, refl, ap, length, map, drop, List, [], ◌∷◌, arith}
use Rattle.std.proofs.Math.ListN.{get_or}
use Rattle.std.proofs.lemmas.List.{drop_more}
use Rattle.vx_dtype.specs.Types.{Bytes, Ty}
use Rattle.vx_dtype.specs.Values.{Raw}
use Rattle.vx_dtype.specs.Fits.{fits, fields_fit}
use Rattle.vx_dtype.specs.Zipped.{zipped}
use Rattle.vx_dtype.specs.RawViews.{raws_of}

and_false : (a : Bool) → (a && false) ≡ false
and_false false = refl
and_false true = refl

module _ {A V : Type 0} (see : A → Ty) (show : V → Raw) where
  -- of another length they are none
  pub fields_fit_lengths : (vs : List V) (fs : List Bytes) (xs : List A) → length fs ≡ length xs → length vs ≢ length xs → fields_fit (raws_of (map show vs)) (zipped fs (map see xs)) ≡ false
  unfolding fields_fit
  fields_fit_lengths [] [] [] d h = absurd (h refl)
  fields_fit_lengths [] [] (x ∷ xs) d h = absurd (omega (arith, d))
  fields_fit_lengths vs (f ∷ fs) [] d h = absurd (omega (arith, d))
  fields_fit_lengths [] (f ∷ fs) (x ∷ xs) d h = refl
  fields_fit_lengths (v ∷ vs) [] [] d h = refl
  fields_fit_lengths (v ∷ vs) [] (x ∷ xs) d h = absurd (omega (arith, d))
  fields_fit_lengths (v ∷ vs) (f ∷ fs) (x ∷ xs) d h =
      ap (λ b. fits (show v) (see x) && b) (fields_fit_lengths vs fs xs (omega (arith, d)) (λ e. h (ap suc e))) ∙ and_false (fits (show v) (see x))

  -- from a place within on they are some where the value there is one of the type there, and those behind it are some
  pub fields_fit_step : (vs : List V) (fs : List Bytes) (xs : List A) (i : ℕ) (v : V) (x : A) → length fs ≡ length xs → length vs ≡ length xs → i < length xs
      → fields_fit (raws_of (map show (drop i vs))) (zipped (drop i fs) (map see (drop i xs)))
      ≡ fits (show (get_or vs i v)) (see (get_or xs i x)) && fields_fit (raws_of (map show (drop (i + 1) vs))) (zipped (drop (i + 1) fs) (map see (drop (i + 1) xs)))
  unfolding fields_fit
  fields_fit_step vs fs xs i v x d e h =
      let k : i < length vs = omega (arith, e, h) in
      let m : i < length fs = omega (arith, d, h) in
      ap (λ ws. fields_fit (raws_of (map show ws)) (zipped (drop i fs) (map see (drop i xs)))) (drop_more vs i v k)
      ∙ ap (λ gs. fields_fit (raws_of (map show (get_or vs i v ∷ drop (i + 1) vs))) (zipped gs (map see (drop i xs)))) (drop_more fs i [] m)
      ∙ ap (λ ys. fields_fit (raws_of (map show (get_or vs i v ∷ drop (i + 1) vs))) (zipped (get_or fs i [] ∷ drop (i + 1) fs) (map see ys))) (drop_more xs i x h)
