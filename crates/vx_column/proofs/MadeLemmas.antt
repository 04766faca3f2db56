-- What clones of values and repeated values stand for.
use Rattle.std.proofs.Common.{◌≡◌, refl, List, [], ◌∷◌, map}
use Rattle.std.specs.List.{AllZip}
use Rattle.vx_dtype.specs.RawViews.{raw_view}
use Rattle.vx_dtype.specs.declared.values.ScalarValue.{ScalarValue}

-- clones are seen as what they were made of
pub clones_are_the_same : (xs ys : List ScalarValue) → AllZip (λ x y. raw_view y ≡ raw_view x) xs ys → map raw_view ys ≡ map raw_view xs
clones_are_the_same [] [] h = refl
clones_are_the_same [] (y ∷ ys) h = absurd h
clones_are_the_same (x ∷ xs) [] h = absurd h
clones_are_the_same (x ∷ xs) (y ∷ ys) h = λ i. h.0 i ∷ clones_are_the_same xs ys h.1 i
