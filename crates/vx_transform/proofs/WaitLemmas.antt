-- What waits among the conjuncts so far, where one more is taken in.
use Rattle.std.proofs.Common.{◌≡◌, refl, ap, sym, ◌∙◌, subst, ℕ, ◌+◌, Bool, true, false, cond, not, ◌&&◌, List, [], ◌∷◌, ◌++◌, length, drop, Option, Some, None, append-nil, arith}
use Rattle.std.specs.Prelude.{is_some, slice_get, set, ◌<◌, Result, Ok, Err, OnOk}
use Rattle.std.proofs.lemmas.Option.{slice_get_within}
use Rattle.std.proofs.lemmas.Bool.{and_parts}
use Rattle.vx_dtype.specs.declared.StrictComparison.{StrictComparison}
use Rattle.vx_expr.specs.declared.Operator.{Operator}
use Rattle.vx_expr.specs.Equal.{tree_eq}
use Rattle.vx_expr.specs.EqualLaws.{tree_eq-same}
use Rattle.vx_expr.specs.Trees.{Tree}
use Rattle.vx_passes.specs.Ranges.{Reading, bound_below, bound_above, range_of}
use Rattle.vx_transform.specs.Pairs.{bound_of, is_from_below, bounds_by, bounds_below, bounds_above, places, taken_in, WaitsAt}
use Rattle.vx_transform.proofs.PlaceLemmas.{places-behind, none-known, none-replaced, Replaced, one-replaced, places-kept, places-dropped}
use Rattle.vx_transform.proofs.BoundLemmas.{one_sided, other_sided, bound-above, bound-below, ranges_below, ranges_above, ranges_none, range_no_bound}

-- what follows from an answer where it is Ok
pub on_ok : {X E P Q : Type 0} (answer : Result X E) → (P → Q) → OnOk answer P → OnOk answer Q
on_ok (Ok x) f h = f h
on_ok (Err e) f h = h

cond-behind : (s t : Bool) (ks : List ℕ) (k : ℕ) → cond (s && t) (ks ++ k ∷ []) ks ≡ ks ++ cond (t && s) (k ∷ []) []
cond-behind true true ks k = refl
cond-behind true false ks k = sym (append-nil ks)
cond-behind false true ks k = sym (append-nil ks)
cond-behind false false ks k = sym (append-nil ks)

first_none : (ks : List ℕ) → slice_get ks 0 ≡ None → ks ≡ []
first_none [] h = refl
first_none (k ∷ ks) h = let no : ⊥ = cc in absurd no

first_some : (ks : List ℕ) (p : ℕ) → slice_get ks 0 ≡ Some p → ks ≡ p ∷ drop 1 ks
first_some [] p h = let no : ⊥ = cc in absurd no
first_some (k ∷ ks) p h = let same : k ≡ p = cc in ap (λ (j : ℕ). j ∷ ks) same

module _ (d : Tree) (made : List Tree) (B A : Tree → List ℕ) (waits : WaitsAt B A made) where
  behind_by : (side : Operator → Option StrictComparison) (e : Tree) (o : Option Reading) → bound_of d ≡ o
      → places (λ c. bounds_by side e (bound_of c)) 0 (made ++ d ∷ []) ≡ places (λ c. bounds_by side e (bound_of c)) 0 made ++ cond (bounds_by side e o) (length made ∷ []) []
  behind_by side e o is =
      places-behind (λ c. bounds_by side e (bound_of c)) 0 made d
      ∙ ap (λ (x : Option Reading). places (λ c. bounds_by side e (bound_of c)) 0 made ++ cond (bounds_by side e x) ((0 + length made) ∷ []) []) is
      ∙ ap (λ (k : ℕ). places (λ c. bounds_by side e (bound_of c)) 0 made ++ cond (bounds_by side e o) (k ∷ []) []) (omega arith)

  -- a conjunct that is no bound stands behind the others
  pub plain-made : bound_of d ≡ None → taken_in made d ≡ made ++ d ∷ []
  plain-made is = none-known (λ c. range_of c d) d (ranges_none d is) made

  -- and what waits still does
  pub plain-waits : bound_of d ≡ None → WaitsAt B A (made ++ d ∷ [])
  plain-waits is = (
    (λ e. waits.0 e ∙ sym (behind_by bound_below e None is ∙ append-nil (places (bounds_below e) 0 made))),
    (λ e. waits.1 e ∙ sym (behind_by bound_above e None is ∙ append-nil (places (bounds_above e) 0 made))),
  )

  module _ (b : Reading) (is : bound_of d ≡ Some b) where
    above_by : (t : Bool) → is_from_below b ≡ t → is_some (bound_above b.operator) ≡ not t
    above_by true h = bound-below b h
    above_by false h = bound-above d b is h

    behind-all : (C D : Tree → List ℕ) → ((e : Tree) → C e ≡ cond (is_from_below b && tree_eq b.operand e) (B e ++ length made ∷ []) (B e))
        → ((e : Tree) → D e ≡ cond (not (is_from_below b) && tree_eq b.operand e) (A e ++ length made ∷ []) (A e)) → WaitsAt C D (made ++ d ∷ [])
    behind-all C D k m = (
      (λ e.
          k e ∙ cond-behind (is_from_below b) (tree_eq b.operand e) (B e) (length made)
          ∙ ap (λ (ks : List ℕ). ks ++ cond (tree_eq b.operand e && is_from_below b) (length made ∷ []) []) (waits.0 e)
          ∙ sym (behind_by bound_below e (Some b) is)),
      (λ e.
          m e ∙ cond-behind (not (is_from_below b)) (tree_eq b.operand e) (A e) (length made)
          ∙ ap (λ (ks : List ℕ). ks ++ cond (tree_eq b.operand e && not (is_from_below b)) (length made ∷ []) []) (waits.1 e)
          ∙ ap (λ (t : Bool). places (bounds_above e) 0 made ++ cond (tree_eq b.operand e && t) (length made ∷ []) []) (sym (above_by (is_from_below b) refl))
          ∙ sym (behind_by bound_above e (Some b) is)),
    )

    -- a bound that waits behind the others, at their number
    pub behind-waits : (C D : Tree → List ℕ) (n : ℕ) → n ≡ length made → ((e : Tree) → C e ≡ cond (is_from_below b && tree_eq b.operand e) (B e ++ n ∷ []) (B e))
        → ((e : Tree) → D e ≡ cond (not (is_from_below b) && tree_eq b.operand e) (A e ++ n ∷ []) (A e)) → WaitsAt C D (made ++ d ∷ [])
    behind-waits C D n at k m =
        behind-all C D (λ e. k e ∙ ap (λ (j : ℕ). cond (is_from_below b && tree_eq b.operand e) (B e ++ j ∷ []) (B e)) at)
        (λ e. m e ∙ ap (λ (j : ℕ). cond (not (is_from_below b) && tree_eq b.operand e) (A e ++ j ∷ []) (A e)) at)

    -- ---- by the side that the bound is from, and the other

    module _ (own opposite : Operator → Option StrictComparison) (apart : (op : Operator) → is_some (opposite op) ≡ true → own op ≡ None)
        (same : (c : Tree) → is_some (range_of c d) ≡ bounds_by opposite b.operand (bound_of c))
        (P Q : Tree → List ℕ) (own_waits : (e : Tree) → P e ≡ places (λ c. bounds_by own e (bound_of c)) 0 made)
        (opposite_waits : (e : Tree) → Q e ≡ places (λ c. bounds_by opposite e (bound_of c)) 0 made) where
      none_made : Q b.operand ≡ [] → taken_in made d ≡ made ++ d ∷ []
      none_made h = none-replaced (λ c. range_of c d) d (λ c. bounds_by opposite b.operand (bound_of c)) same 0 made (sym (opposite_waits b.operand) ∙ h)

      dropped_none : Q b.operand ≡ [] → (e : Tree) → cond (tree_eq b.operand e) (drop 1 (Q e)) (Q e) ≡ Q e
      dropped_none h e = by-test (tree_eq b.operand e) refl
        where
          by-test : (t : Bool) → tree_eq b.operand e ≡ t → cond t (drop 1 (Q e)) (Q e) ≡ Q e
          by-test true i =
              let empty : Q e ≡ [] = ap Q (sym (tree_eq-same b.operand e i)) ∙ h in
              ap (λ (ks : List ℕ). drop 1 ks) empty ∙ sym empty
          by-test false i = refl

      one_made : (p : ℕ) → slice_get (Q b.operand) 0 ≡ Some p → Replaced (λ c. range_of c d) d 0 made p
      one_made p h =
          one-replaced (λ c. range_of c d) d (λ c. bounds_by opposite b.operand (bound_of c)) same 0 made p (drop 1 (Q b.operand))
          (sym (opposite_waits b.operand) ∙ first_some (Q b.operand) p h)

      no_range : (side : Operator → Option StrictComparison) (e c y : Tree) → range_of c d ≡ Some y → bounds_by side e (bound_of y) ≡ false
      no_range side e c y h = ap (bounds_by side e) (range_no_bound c d y h)

      own_apart : (e : Tree) (o : Option Reading) → bounds_by opposite b.operand o ≡ true → bounds_by own e o ≡ false
      own_apart e None h = refl
      own_apart e (Some a) h =
          ap (λ (x : Option StrictComparison). tree_eq a.operand e && is_some x) (apart a.operator (and_parts (tree_eq a.operand b.operand) (is_some (opposite a.operator)) h).1)
          ∙ never (tree_eq a.operand e)
        where
          never : (t : Bool) → (t && false) ≡ false
          never true = refl
          never false = refl

      other_apart : (e : Tree) → tree_eq b.operand e ≡ false → (o : Option Reading) → bounds_by opposite b.operand o ≡ true → bounds_by opposite e o ≡ false
      other_apart e i None h = refl
      other_apart e i (Some a) h =
          let shared : a.operand ≡ b.operand = tree_eq-same a.operand b.operand (and_parts (tree_eq a.operand b.operand) (is_some (opposite a.operator)) h).0 in
          ap (λ (x : Tree). tree_eq x e && is_some (opposite a.operator)) shared ∙ ap (λ (t : Bool). t && is_some (opposite a.operator)) i

      own_kept : (p : ℕ) → slice_get (Q b.operand) 0 ≡ Some p → (e : Tree) → P e ≡ places (λ c. bounds_by own e (bound_of c)) 0 (taken_in made d)
      own_kept p h e =
          own_waits e
          ∙ sym (places-kept (λ c. range_of c d) d (λ c. bounds_by opposite b.operand (bound_of c)) same (λ c. bounds_by own e (bound_of c))
          (λ c. own_apart e (bound_of c)) (no_range own e) 0 made p (drop 1 (Q b.operand)) (sym (opposite_waits b.operand) ∙ first_some (Q b.operand) p h))

      opposite_dropped : (p : ℕ) → slice_get (Q b.operand) 0 ≡ Some p → (e : Tree)
          → cond (tree_eq b.operand e) (drop 1 (Q e)) (Q e) ≡ places (λ c. bounds_by opposite e (bound_of c)) 0 (taken_in made d)
      opposite_dropped p h e = by-test (tree_eq b.operand e) refl
        where
          begins : places (λ c. bounds_by opposite b.operand (bound_of c)) 0 made ≡ p ∷ drop 1 (Q b.operand)
          begins = sym (opposite_waits b.operand) ∙ first_some (Q b.operand) p h

          by-test : (t : Bool) → tree_eq b.operand e ≡ t → cond t (drop 1 (Q e)) (Q e) ≡ places (λ c. bounds_by opposite e (bound_of c)) 0 (taken_in made d)
          by-test true i =
              subst (λ (x : Tree). drop 1 (Q x) ≡ places (λ c. bounds_by opposite x (bound_of c)) 0 (taken_in made d)) (tree_eq-same b.operand e i)
              (sym (places-dropped (λ c. range_of c d) d (λ c. bounds_by opposite b.operand (bound_of c)) same (no_range opposite b.operand) 0 made p (drop 1 (Q b.operand)) begins))
          by-test false i =
              opposite_waits e
              ∙ sym (places-kept (λ c. range_of c d) d (λ c. bounds_by opposite b.operand (bound_of c)) same (λ c. bounds_by opposite e (bound_of c))
              (λ c. other_apart e i (bound_of c)) (no_range opposite e) 0 made p (drop 1 (Q b.operand)) begins)

    -- ---- a bound that looks for the first that waits for it

    module _ (C D : Tree → List ℕ) (below : (e : Tree) → C e ≡ cond (not (is_from_below b) && tree_eq b.operand e) (drop 1 (B e)) (B e))
        (above : (e : Tree) → D e ≡ cond (is_from_below b && tree_eq b.operand e) (drop 1 (A e)) (A e)) where
      below_by : (t : Bool) → is_from_below b ≡ t → (e : Tree) → C e ≡ cond (not t && tree_eq b.operand e) (drop 1 (B e)) (B e)
      below_by t h e = below e ∙ ap (λ (s : Bool). cond (not s && tree_eq b.operand e) (drop 1 (B e)) (B e)) h

      above_side : (t : Bool) → is_from_below b ≡ t → (e : Tree) → D e ≡ cond (t && tree_eq b.operand e) (drop 1 (A e)) (A e)
      above_side t h e = above e ∙ ap (λ (s : Bool). cond (s && tree_eq b.operand e) (drop 1 (A e)) (A e)) h

      -- where none waits, it stands behind the others, and nothing is taken out
      pub none-waits : slice_get (cond (is_from_below b) (A b.operand) (B b.operand)) 0 ≡ None → (taken_in made d ≡ made ++ d ∷ []) × WaitsAt C D made
      none-waits h = by-side (is_from_below b) refl h
        where
          by-side : (t : Bool) → is_from_below b ≡ t → slice_get (cond t (A b.operand) (B b.operand)) 0 ≡ None → (taken_in made d ≡ made ++ d ∷ []) × WaitsAt C D made
          by-side true i g =
              let empty = first_none (A b.operand) g in (
                none_made bound_below bound_above other_sided (ranges_below d b is i) B A waits.0 waits.1 empty,
                (
                  (λ e. below_by true i e ∙ waits.0 e),
                  (λ e. above_side true i e ∙ dropped_none bound_below bound_above other_sided (ranges_below d b is i) B A waits.0 waits.1 empty e ∙ waits.1 e),
                ),
              )
          by-side false i g =
              let empty = first_none (B b.operand) g in (
                none_made bound_above bound_below one_sided (ranges_above d b is i) A B waits.1 waits.0 empty,
                (
                  (λ e. below_by false i e ∙ dropped_none bound_above bound_below one_sided (ranges_above d b is i) A B waits.1 waits.0 empty e ∙ waits.0 e),
                  (λ e. above_side false i e ∙ waits.1 e),
                ),
              )

      -- where one waits, their range stands in its place, and it no longer waits
      pub one-waits : (p : ℕ) → slice_get (cond (is_from_below b) (A b.operand) (B b.operand)) 0 ≡ Some p → Replaced (λ c. range_of c d) d 0 made p × WaitsAt C D (taken_in made d)
      one-waits p h = by-side (is_from_below b) refl h
        where
          by-side : (t : Bool) → is_from_below b ≡ t → slice_get (cond t (A b.operand) (B b.operand)) 0 ≡ Some p → Replaced (λ c. range_of c d) d 0 made p × WaitsAt C D (taken_in made d)
          by-side true i g = (
            one_made bound_below bound_above other_sided (ranges_below d b is i) B A waits.0 waits.1 p g,
            (
              (λ e. below_by true i e ∙ own_kept bound_below bound_above other_sided (ranges_below d b is i) B A waits.0 waits.1 p g e),
              (λ e. above_side true i e ∙ opposite_dropped bound_below bound_above other_sided (ranges_below d b is i) B A waits.0 waits.1 p g e),
            ),
          )
          by-side false i g = (
            one_made bound_above bound_below one_sided (ranges_above d b is i) A B waits.1 waits.0 p g,
            (
              (λ e. below_by false i e ∙ opposite_dropped bound_above bound_below one_sided (ranges_above d b is i) A B waits.1 waits.0 p g e),
              (λ e. above_side false i e ∙ own_kept bound_above bound_below one_sided (ranges_above d b is i) A B waits.1 waits.0 p g e),
            ),
          )

-- the place, and what stands there before and after
module _ (d : Tree) (made : List Tree) (p : ℕ) (r : Replaced (λ c. range_of c d) d 0 made p) where
  at_place : r.place ≡ p
  at_place = omega (arith, r.counted)

  pub stood-at : slice_get made p ≡ Some r.was
  stood-at = ap (slice_get made) (sym at_place) ∙ r.stood

  pub stood-within : p < length made
  stood-within = slice_get_within made p r.was stood-at

  pub is-set : taken_in made d ≡ set made p r.became
  is-set = r.is ∙ ap (λ (i : ℕ). set made i r.became) at_place
