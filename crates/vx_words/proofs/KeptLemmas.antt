-- What is kept of a list, by the places at which the list of truths is true.
use Rattle.std.proofs.Common.{◌≡◌, ℕ, suc, zero, ◌+◌, ◌-◌, ◌<◌, ◌≤◌, List, [], ◌∷◌, ◌++◌, get_or, length, map, drop, Bool, true, false, cond, Option, refl, ◌∙◌, sym, ap, arith}
use Rattle.std.proofs.lemmas.List.{drop_all, append_assoc, append-nil}
use Rattle.std.specs.Simd.Lanes.{zip2}
use Rattle.vx_words.specs.Words.{IsFirstPlace}
use Rattle.vx_words.specs.Truths.{is_true, true_at, kept_items}

-- what is kept from a place on
abbrev pub kept_from : {X : Type 0} → List X → List (Option Bool) → ℕ → List X
kept_from xs ks i = kept_items (drop i xs) (drop i ks)

kept_none : {X : Type 0} (xs : List X) → kept_items xs [] ≡ []
kept_none [] = refl
kept_none (x ∷ xs) = refl

-- nothing is kept of a place at which the truth isn't true
over : {X : Type 0} (xs : List X) (ks : List (Option Bool)) (i : ℕ) → true_at ks i ≡ false
    → kept_items (drop i xs) (drop i ks) ≡ kept_items (drop (suc i) xs) (drop (suc i) ks)
over [] ks i e = ap (λ xs. kept_items xs (drop i ks)) (drop_all i [] (omega arith))
over (x ∷ xs) [] i e =
    ap (kept_items (drop i (x ∷ xs))) (drop_all i [] (omega arith))
    ∙ kept_none (drop i (x ∷ xs))
    ∙ sym (kept_none (drop i xs))
over (x ∷ xs) (k ∷ ks) zero e = ap (λ b. cond b (x ∷ kept_items xs ks) (kept_items xs ks)) e
over (x ∷ xs) (k ∷ ks) (suc i) e = over xs ks i e

kept_over : {X : Type 0} (xs : List X) (ks : List (Option Bool)) (i : ℕ) → true_at ks i ≡ false
    → kept_items (drop i xs) (drop i ks) ≡ kept_items (drop (i + 1) xs) (drop (i + 1) ks)
kept_over xs ks i e = over xs ks i e ∙ ap (λ j. kept_items (drop j xs) (drop j ks)) (let next : suc i ≡ i + 1 = omega arith in next)

-- nor of places at none of which it is true
kept_skip : {X : Type 0} (xs : List X) (ks : List (Option Bool)) (d i j : ℕ) → j ≡ i + d
    → ((p : ℕ) → i ≤ p → p < j → true_at ks p ≡ false)
    → kept_items (drop i xs) (drop i ks) ≡ kept_items (drop j xs) (drop j ks)
kept_skip xs ks zero i j e none = ap (λ p. kept_items (drop p xs) (drop p ks)) (let same : i ≡ j = omega arith in same)
kept_skip xs ks (suc d) i j e none =
    kept_over xs ks i (none i (omega arith) (omega arith))
    ∙ kept_skip xs ks d (i + 1) j (omega arith) (λ p lo hi. none p (omega arith) hi)

pub kept_past : {X : Type 0} (xs : List X) (ks : List (Option Bool)) (i j : ℕ) → i ≤ j
    → ((p : ℕ) → i ≤ p → p < j → true_at ks p ≡ false)
    → kept_items (drop i xs) (drop i ks) ≡ kept_items (drop j xs) (drop j ks)
kept_past xs ks i j h none = kept_skip xs ks (j - i) i j (omega arith) none

-- an item is kept at whose place the truth is true
here : {X : Type 0} (xs : List X) (ks : List (Option Bool)) (i : ℕ) (x : X) → i < length xs → true_at ks i ≡ true → get_or xs i x ≡ x
    → kept_items (drop i xs) (drop i ks) ≡ x ∷ kept_items (drop (suc i) xs) (drop (suc i) ks)
here [] ks i x h e there = absurd (omega arith)
here (y ∷ xs) [] i x h e there = absurd (cc)
here (y ∷ xs) (k ∷ ks) zero x h e there =
    ap (λ b. cond b (y ∷ kept_items xs ks) (kept_items xs ks)) e ∙ ap (λ z. z ∷ kept_items xs ks) there
here (y ∷ xs) (k ∷ ks) (suc i) x h e there = here xs ks i x (omega arith) e there

pub kept_here : {X : Type 0} (xs : List X) (ks : List (Option Bool)) (i : ℕ) (x : X) → i < length xs → true_at ks i ≡ true → get_or xs i x ≡ x
    → kept_items (drop i xs) (drop i ks) ≡ x ∷ kept_items (drop (i + 1) xs) (drop (i + 1) ks)
kept_here xs ks i x h e there =
    here xs ks i x h e there ∙ ap (λ j. x ∷ kept_items (drop j xs) (drop j ks)) (let next : suc i ≡ i + 1 = omega arith in next)

-- nothing is kept from the end on
pub kept_nothing : {X : Type 0} (xs : List X) (ks : List (Option Bool)) (i : ℕ) → length ks ≤ i → kept_items (drop i xs) (drop i ks) ≡ []
kept_nothing xs ks i h = ap (kept_items (drop i xs)) (drop_all i ks h) ∙ kept_none (drop i xs)

module _ {X : Type 0} (xs : List X) (ks : List (Option Bool)) (long : length ks ≡ length xs) where
  -- one item more that is kept
  pub kept_step : (made : List X) (from i : ℕ) (x : X) → IsFirstPlace (true_at ks) (length ks) from i → get_or xs i x ≡ x
      → made ++ kept_from xs ks from ≡ kept_items xs ks → (made ++ x ∷ []) ++ kept_from xs ks (i + 1) ≡ kept_items xs ks
  kept_step made from i x first there so_far =
      let inside = first.within in
      append_assoc made (x ∷ []) (kept_from xs ks (i + 1))
      ∙ ap (λ rest. made ++ rest)
      (sym (kept_past xs ks from i first.from_there first.none_before ∙ kept_here xs ks i x (omega arith) first.holds there))
      ∙ so_far

  -- no item more that is kept
  pub kept_end : (made : List X) (from : ℕ) → from ≤ length ks → ((p : ℕ) → from ≤ p → p < length ks → true_at ks p ≡ false)
      → made ++ kept_from xs ks from ≡ kept_items xs ks → made ≡ kept_items xs ks
  kept_end made from h none so_far =
      sym (append-nil made)
      ∙ ap (λ rest. made ++ rest) (sym (kept_past xs ks from (length ks) h none ∙ kept_nothing xs ks (length ks) (omega arith)))
      ∙ so_far

-- ---- what is kept of a list that a function makes
module _ {X Y : Type 0} (f : X → Y) where
  chosen_map : (b : Bool) (x : X) (xs : List X) → cond b (f x ∷ map f xs) (map f xs) ≡ map f (cond b (x ∷ xs) xs)
  chosen_map false x xs = refl
  chosen_map true x xs = refl

  pub kept_map : (xs : List X) (ks : List (Option Bool)) → kept_items (map f xs) ks ≡ map f (kept_items xs ks)
  kept_map [] ks = refl
  kept_map (x ∷ xs) [] = refl
  kept_map (x ∷ xs) (k ∷ ks) =
      ap (λ ys. cond (is_true k) (f x ∷ ys) ys) (kept_map xs ks) ∙ chosen_map (is_true k) x (kept_items xs ks)

module _ {X Y Z : Type 0} (f : X → Y → Z) where
  chosen_zip : (b : Bool) (x : X) (y : Y) (xs : List X) (ys : List Y)
      → cond b (f x y ∷ zip2 f xs ys) (zip2 f xs ys) ≡ zip2 f (cond b (x ∷ xs) xs) (cond b (y ∷ ys) ys)
  chosen_zip false x y xs ys = refl
  chosen_zip true x y xs ys = refl

  pub kept_zip : (xs : List X) (ys : List Y) (ks : List (Option Bool)) → length xs ≡ length ys
      → kept_items (zip2 f xs ys) ks ≡ zip2 f (kept_items xs ks) (kept_items ys ks)
  kept_zip [] [] ks h = refl
  kept_zip [] (y ∷ ys) ks h = absurd (omega arith)
  kept_zip (x ∷ xs) [] ks h = absurd (omega arith)
  kept_zip (x ∷ xs) (y ∷ ys) [] h = refl
  kept_zip (x ∷ xs) (y ∷ ys) (k ∷ ks) h =
      ap (λ zs. cond (is_true k) (f x y ∷ zs) zs) (kept_zip xs ys ks (omega arith))
      ∙ chosen_zip (is_true k) x y (kept_items xs ks) (kept_items ys ks)

module _ {X Y : Type 0} where
  chosen_length : (b : Bool) (x : X) (y : Y) (xs : List X) (ys : List Y) → length xs ≡ length ys
      → length (cond b (x ∷ xs) xs) ≡ length (cond b (y ∷ ys) ys)
  chosen_length false x y xs ys h = h
  chosen_length true x y xs ys h = omega arith

  pub kept_length : (xs : List X) (ys : List Y) (ks : List (Option Bool)) → length xs ≡ length ys
      → length (kept_items xs ks) ≡ length (kept_items ys ks)
  kept_length [] [] ks h = refl
  kept_length [] (y ∷ ys) ks h = absurd (omega arith)
  kept_length (x ∷ xs) [] ks h = absurd (omega arith)
  kept_length (x ∷ xs) (y ∷ ys) [] h = refl
  kept_length (x ∷ xs) (y ∷ ys) (k ∷ ks) h =
      chosen_length (is_true k) x y (kept_items xs ks) (kept_items ys ks) (kept_length xs ys ks (omega arith))
