-- When lists of wire trees differ, and how many nodes stand in parts of them.
use Rattle.std.proofs.Common.{◌≡◌, ◌≢◌, ◌<◌, ◌≤◌, ℕ, zero, suc, ◌+◌, add-one, Bool, true, false, ◌&&◌, refl, sym, ap, ◌∙◌, length, map, take, drop, get_or, List, [], ◌∷◌, arith}
use Rattle.std.proofs.lemmas.List.{get_or_default}
use Rattle.vx_wire_bytes.specs.Wires.{Wire, size_of, sizes_of}
use Rattle.vx_wire_bytes.specs.WireEqual.{wire_eq, wires_eq}
use Rattle.vx_wire_bytes.specs.WireViews.{wires_in}

and_false : (a : Bool) → (a && false) ≡ false
and_false true = refl
and_false false = refl

and_true : (a : Bool) → (a && true) ≡ a
and_true true = refl
and_true false = refl

and_assoc : (a b d : Bool) → ((a && b) && d) ≡ (a && (b && d))
and_assoc true b d = refl
and_assoc false b d = refl

module _ {A : Type 0} (see : A → Wire) where
  -- lists of other lengths differ
  pub wires_eq_lengths : (xs ys : List A) → length xs ≢ length ys → wires_eq (wires_in (map see xs)) (wires_in (map see ys)) ≡ false
  unfolding wires_eq
  wires_eq_lengths [] [] h = absurd (h refl)
  wires_eq_lengths [] (y ∷ ys) h = refl
  wires_eq_lengths (x ∷ xs) [] h = refl
  wires_eq_lengths (x ∷ xs) (y ∷ ys) h =
      ap (λ b. wire_eq (see x) (see y) && b) (wires_eq_lengths xs ys (λ m. h (ap suc m))) ∙ and_false (wire_eq (see x) (see y))

  around : (xs ys : List A) (i : ℕ) (x y : A) → i < length xs → length xs ≡ length ys → x ≡ get_or xs i x → y ≡ get_or ys i y
      → wires_eq (wires_in (map see xs)) (wires_in (map see ys))
      ≡ (wires_eq (wires_in (map see (take i xs))) (wires_in (map see (take i ys)))
      && (wire_eq (see x) (see y) && wires_eq (wires_in (map see (drop (suc i) xs))) (wires_in (map see (drop (suc i) ys)))))
  unfolding wires_eq
  around [] ys i x y lt many at other = absurd (omega arith)
  around (z ∷ xs) [] i x y lt many at other = absurd (omega (arith, many))
  around (z ∷ xs) (w ∷ ys) zero x y lt many at other = λ j. wire_eq (see (sym at j)) (see (sym other j)) && wires_eq (wires_in (map see xs)) (wires_in (map see ys))
  around (z ∷ xs) (w ∷ ys) (suc i) x y lt many at other =
      let before = wires_eq (wires_in (map see (take i xs))) (wires_in (map see (take i ys))) in
      let rest = wire_eq (see x) (see y) && wires_eq (wires_in (map see (drop (suc i) xs))) (wires_in (map see (drop (suc i) ys))) in
      ap (λ b. wire_eq (see z) (see w) && b) (around xs ys i x y (omega arith) (omega (arith, many)) at other)
      ∙ sym (and_assoc (wire_eq (see z) (see w)) before rest)

  -- lists of as many nodes are compared before a place, at the place and behind it
  pub wires_eq_around : (xs ys : List A) (i : ℕ) (x y : A) → i < length xs → length xs ≡ length ys → x ≡ get_or xs i x → y ≡ get_or ys i y
      → wires_eq (wires_in (map see xs)) (wires_in (map see ys))
      ≡ (wires_eq (wires_in (map see (take i xs))) (wires_in (map see (take i ys)))
      && (wire_eq (see x) (see y) && wires_eq (wires_in (map see (drop (i + 1) xs))) (wires_in (map see (drop (i + 1) ys)))))
  wires_eq_around xs ys i x y lt many at other = rw (add-one i) (around xs ys i x y lt many at other)

  -- what stands before a place differs
  pub other_before : (xs ys : List A) (i : ℕ) → i < length xs → length xs ≡ length ys → wires_eq (wires_in (map see (take i xs))) (wires_in (map see (take i ys))) ≡ false
      → wires_eq (wires_in (map see xs)) (wires_in (map see ys)) ≡ false
  other_before [] ys i lt many other = absurd (omega arith)
  other_before (z ∷ xs) [] i lt many other = absurd (omega (arith, many))
  other_before (z ∷ xs) (w ∷ ys) i lt many other =
      let a = get_or (z ∷ xs) i z in
      let b = get_or (w ∷ ys) i w in
      wires_eq_around (z ∷ xs) (w ∷ ys) i a b lt many (get_or_default (z ∷ xs) i z a lt) (get_or_default (w ∷ ys) i w b (omega (arith, many, lt)))
      ∙ ap (λ d. d && (wire_eq (see a) (see b) && wires_eq (wires_in (map see (drop (i + 1) (z ∷ xs)))) (wires_in (map see (drop (i + 1) (w ∷ ys)))))) other

  -- what stands behind a place differs
  pub other_behind : (xs ys : List A) (i : ℕ) → i < length xs → length xs ≡ length ys → wires_eq (wires_in (map see (drop (i + 1) xs))) (wires_in (map see (drop (i + 1) ys))) ≡ false
      → wires_eq (wires_in (map see xs)) (wires_in (map see ys)) ≡ false
  other_behind [] ys i lt many other = absurd (omega arith)
  other_behind (z ∷ xs) [] i lt many other = absurd (omega (arith, many))
  other_behind (z ∷ xs) (w ∷ ys) i lt many other =
      let a = get_or (z ∷ xs) i z in
      let b = get_or (w ∷ ys) i w in
      let before = wires_eq (wires_in (map see (take i (z ∷ xs)))) (wires_in (map see (take i (w ∷ ys)))) in
      wires_eq_around (z ∷ xs) (w ∷ ys) i a b lt many (get_or_default (z ∷ xs) i z a lt) (get_or_default (w ∷ ys) i w b (omega (arith, many, lt)))
      ∙ ap (λ d. before && (wire_eq (see a) (see b) && d)) other ∙ ap (λ d. before && d) (and_false (wire_eq (see a) (see b))) ∙ and_false before

  -- nothing but what stands at a place can differ
  pub same_around : (xs ys : List A) (i : ℕ) (x y : A) → i < length xs → length xs ≡ length ys → x ≡ get_or xs i x → y ≡ get_or ys i y
      → wires_eq (wires_in (map see (take i xs))) (wires_in (map see (take i ys))) ≡ true
      → wires_eq (wires_in (map see (drop (i + 1) xs))) (wires_in (map see (drop (i + 1) ys))) ≡ true
      → wires_eq (wires_in (map see xs)) (wires_in (map see ys)) ≡ wire_eq (see x) (see y)
  same_around xs ys i x y lt many at other before behind =
      wires_eq_around xs ys i x y lt many at other ∙ (λ j. before j && (wire_eq (see x) (see y) && behind j)) ∙ and_true (wire_eq (see x) (see y))

  pub sizes_of-take : (i : ℕ) (xs : List A) → sizes_of (wires_in (map see (take i xs))) ≤ sizes_of (wires_in (map see xs))
  sizes_of-take zero xs = omega arith
  sizes_of-take (suc i) [] = omega arith
  sizes_of-take (suc i) (x ∷ xs) = omega (arith, sizes_of-take i xs)

  pub sizes_of-drop : (i : ℕ) (xs : List A) → sizes_of (wires_in (map see (drop i xs))) ≤ sizes_of (wires_in (map see xs))
  sizes_of-drop zero xs = omega arith
  sizes_of-drop (suc i) [] = omega arith
  sizes_of-drop (suc i) (x ∷ xs) = omega (arith, sizes_of-drop i xs)

  pub size_of-at : (xs : List A) (i : ℕ) (x : A) → i < length xs → x ≡ get_or xs i x → size_of (see x) ≤ sizes_of (wires_in (map see xs))
  size_of-at [] i x lt at = absurd (omega arith)
  size_of-at (y ∷ xs) zero x lt at = omega (arith, ap (λ z. size_of (see z)) at)
  size_of-at (y ∷ xs) (suc i) x lt at = omega (arith, size_of-at xs i x (omega arith) at)
