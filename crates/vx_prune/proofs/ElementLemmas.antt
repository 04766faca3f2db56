-- The elements of a constant list, one after the other.
use Rattle.std.proofs.Common.{◌≡◌, true, false, ◌&&◌, Bool, ℕ, zero, suc, ◌+◌, ◌<◌, List, [], ◌∷◌, length, map, drop, refl, sym, ap, ◌∙◌, arith}
use Rattle.std.proofs.Math.ListN.{get_or}
use Rattle.std.proofs.lemmas.List.{drop_more}
use Rattle.vx_dtype.specs.Types.{Ty}
use Rattle.vx_dtype.specs.Values.{Raw}
use Rattle.vx_dtype.specs.RawViews.{raws_of}
use Rattle.vx_dtype.specs.Fits.{fits, all_fit}
use Rattle.vx_dtype.specs.ScalarAnswers.{typed}
use Rattle.vx_expr.specs.Trees.{Tree, literal}
use Rattle.vx_passes.specs.Falsifying.{outside, all_outside_after, and_of, elements_falsified}
use Rattle.vx_prune.specs.Elements.{some_falsified}

first_true : (a b : Bool) → (a && b) ≡ true → a ≡ true
first_true true b h = refl
first_true false b h = h

second_true : (a b : Bool) → (a && b) ≡ true → b ≡ true
second_true true b h = h
second_true false b h = absurd cc

module _ {X : Type 0} (see : X → Raw) (t : Ty) where
  -- each of the elements is one of the type
  pub element_fits : (xs : List X) (i : ℕ) (d : X) → i < length xs → all_fit (raws_of (map see xs)) t ≡ true → fits (see (get_or xs i d)) t ≡ true
  unfolding fits
  element_fits [] i d within h = absurd (grind arith)
  element_fits (x ∷ xs) zero d within h = first_true (fits (see x) t) (all_fit (raws_of (map see xs)) t) h
  element_fits (x ∷ xs) (suc i) d within h = element_fits xs i d (omega arith) (second_true (fits (see x) t) (all_fit (raws_of (map see xs)) t) h)

  -- what is left after the element at a place
  pub outside_more : (greatest least made : Tree) (xs : List X) (i : ℕ) (x : X) → i < length xs → x ≡ get_or xs i x
      → all_outside_after greatest least t made (raws_of (map see (drop i xs)))
      ≡ all_outside_after greatest least t (and_of made (outside greatest least (literal (typed t (see x))))) (raws_of (map see (drop (i + 1) xs)))
  outside_more greatest least made xs i x within is =
      ap (λ ys. all_outside_after greatest least t made (raws_of (map see ys))) (drop_more xs i x within ∙ ap (λ y. y ∷ drop (i + 1) xs) (sym is))

  -- of a list with elements what is found of its first one and those behind it
  pub some_falsified-is : (e : Tree) (xs : List X) → 0 < length xs → some_falsified e t (raws_of (map see xs)) ≡ (λ k. elements_falsified k e t (raws_of (map see xs)))
  some_falsified-is e [] some = absurd (omega (arith, some))
  some_falsified-is e (x ∷ xs) some = refl
