-- How the depths of children are compared, step by step.
use Rattle.std.specs.Prelude.{◌≡◌, ℕ, zero, suc, ◌+◌, ◌-◌, ◌<◌, ◌≤◌, Bool, true, false, List, [], ◌∷◌, Some, slice_get, get_or, length, drop}
use Rattle.std.specs.List.{list_any}
use Rattle.std.proofs.Common.{refl, sym, ap, ◌∙◌, arith}
use Rattle.std.proofs.lemmas.Option.{same_Some, none-some, slice_get-get_or}
use Rattle.vx_traversal.specs.Paths.{compared_levels, reaches, is_as_deep, deepest_place, place_in, path_place}
use Rattle.vx_traversal.proofs.Steps.{drop-next, drop-past}

module _ {N : Type 0} (p : N → Bool) (ns : List N) (i : ℕ) (n : N) (at : slice_get ns i ≡ Some n) where
  -- the next one has it
  pub list_any-here : p n ≡ true → list_any p (drop i ns) ≡ true
  list_any-here is = rw (drop-next ns i n at, is) refl

  -- the next one doesn't have it
  pub list_any-past : p n ≡ false → list_any p (drop i ns) ≡ list_any p (drop (i + 1) ns)
  list_any-past is = rw (drop-next ns i n at, is) refl

module _ {N : Type 0} (children : N → List N) where
  -- each node reaches no level
  pub reaches-zero : (levels : ℕ) (n : N) → levels ≡ 0 → reaches children levels n ≡ true
  unfolding reaches
  reaches-zero zero n none = refl
  reaches-zero (suc k) n none = absurd (omega (arith, none))

  -- a node reaches more levels where a child of it does
  pub reaches-more : (levels : ℕ) (n : N) → 0 < levels → reaches children levels n ≡ list_any (reaches children (levels - 1)) (children n)
  unfolding reaches
  reaches-more zero n some = absurd (omega (arith, some))
  reaches-more (suc k) n some = let same : k ≡ suc k - 1 = omega arith in ap (λ j. list_any (reaches children j) (children n)) same

  first_fails : (levels : ℕ) (more : List ℕ) (a b : N) → reaches children levels a ≡ false → is_as_deep children (levels ∷ more) a b ≡ true
  unfolding is_as_deep
  first_fails levels more a b is = rw (is, is_as_deep) refl

  second_fails : (levels : ℕ) (more : List ℕ) (a b : N) → reaches children levels a ≡ true → reaches children levels b ≡ false → is_as_deep children (levels ∷ more) a b ≡ false
  unfolding is_as_deep
  second_fails levels more a b is not = rw (is, not, is_as_deep) refl

  both_reach : (levels : ℕ) (more : List ℕ) (a b : N) → reaches children levels a ≡ true → reaches children levels b ≡ true → is_as_deep children (levels ∷ more) a b ≡ is_as_deep children more a b
  unfolding is_as_deep
  both_reach levels more a b is too = rw (is, too, is_as_deep) refl

  next_levels : (ls : List ℕ) (i : ℕ) (a b : N) → i < length ls → is_as_deep children (drop i ls) a b ≡ is_as_deep children (get_or ls i 0 ∷ drop (i + 1) ls) a b
  next_levels ls i a b more = ap (λ ms. is_as_deep children ms a b) (drop-next ls i (get_or ls i 0) (slice_get-get_or ls i 0 more))

  -- the first node is not so deep
  pub is_as_deep-first : (ls : List ℕ) (i : ℕ) (a b : N) → i < length ls → reaches children (get_or ls i 0) a ≡ false → is_as_deep children (drop i ls) a b ≡ true
  is_as_deep-first ls i a b more is = next_levels ls i a b more ∙ first_fails (get_or ls i 0) (drop (i + 1) ls) a b is

  -- the second node alone is not so deep
  pub is_as_deep-second : (ls : List ℕ) (i : ℕ) (a b : N) → i < length ls → reaches children (get_or ls i 0) a ≡ true → reaches children (get_or ls i 0) b ≡ false → is_as_deep children (drop i ls) a b ≡ false
  is_as_deep-second ls i a b more is not = next_levels ls i a b more ∙ second_fails (get_or ls i 0) (drop (i + 1) ls) a b is not

  -- both are so deep
  pub is_as_deep-both : (ls : List ℕ) (i : ℕ) (a b : N) → i < length ls → reaches children (get_or ls i 0) a ≡ true → reaches children (get_or ls i 0) b ≡ true →
      is_as_deep children (drop (i + 1) ls) a b ≡ is_as_deep children (drop i ls) a b
  is_as_deep-both ls i a b more is too = sym (next_levels ls i a b more ∙ both_reach (get_or ls i 0) (drop (i + 1) ls) a b is too)

  none_more : (ls : List ℕ) (a b : N) → ls ≡ [] → is_as_deep children ls a b ≡ true
  unfolding is_as_deep
  none_more [] a b none = refl
  none_more (l ∷ ls) a b none = cc

  -- no number of levels is left
  pub is_as_deep-end : (ls : List ℕ) (i : ℕ) (a b : N) → length ls ≤ i → is_as_deep children (drop i ls) a b ≡ true
  is_as_deep-end ls i a b past = none_more (drop i ls) a b (drop-past ls i past)

  first_in : (ns : List N) (c : N) → slice_get ns 0 ≡ Some c → deepest_place children c 0 1 (drop 1 ns) ≡ place_in children ns
  unfolding place_in
  first_in [] c at = absurd (none-some c at)
  first_in (n ∷ ns) c at = ap (λ z. deepest_place children z 0 1 ns) (sym (same_Some n c at))

  -- the first child is the deepest one so far
  pub path_place-first : (n c : N) → slice_get (children n) 0 ≡ Some c → deepest_place children c 0 1 (drop 1 (children n)) ≡ path_place children n
  unfolding path_place
  path_place-first n c at = first_in (children n) c at

  deeper : (d : N) (place i : ℕ) (n : N) (ns : List N) → is_as_deep children compared_levels d n ≡ true → deepest_place children d place i (n ∷ ns) ≡ deepest_place children n i (i + 1) ns
  unfolding deepest_place
  deeper d place i n ns is = rw (is, deepest_place) refl

  not_deeper : (d : N) (place i : ℕ) (n : N) (ns : List N) → is_as_deep children compared_levels d n ≡ false → deepest_place children d place i (n ∷ ns) ≡ deepest_place children d place (i + 1) ns
  unfolding deepest_place
  not_deeper d place i n ns is = rw (is, deepest_place) refl

  -- the next child is as deep as the deepest one so far
  pub deepest_place-next : (d : N) (place i : ℕ) (ns : List N) (n : N) → slice_get ns i ≡ Some n → is_as_deep children compared_levels d n ≡ true →
      deepest_place children n i (i + 1) (drop (i + 1) ns) ≡ deepest_place children d place i (drop i ns)
  deepest_place-next d place i ns n at is = sym (ap (λ ms. deepest_place children d place i ms) (drop-next ns i n at) ∙ deeper d place i n (drop (i + 1) ns) is)

  -- the next child is not as deep
  pub deepest_place-past : (d : N) (place i : ℕ) (ns : List N) (n : N) → slice_get ns i ≡ Some n → is_as_deep children compared_levels d n ≡ false →
      deepest_place children d place (i + 1) (drop (i + 1) ns) ≡ deepest_place children d place i (drop i ns)
  deepest_place-past d place i ns n at is = sym (ap (λ ms. deepest_place children d place i ms) (drop-next ns i n at) ∙ not_deeper d place i n (drop (i + 1) ns) is)

  none_left : (d : N) (place i : ℕ) (ns : List N) → ns ≡ [] → deepest_place children d place i ns ≡ place
  unfolding deepest_place
  none_left d place i [] none = refl
  none_left d place i (n ∷ ns) none = cc

  -- no child is left
  pub deepest_place-end : (d : N) (place i : ℕ) (ns : List N) → length ns ≤ i → deepest_place children d place i (drop i ns) ≡ place
  deepest_place-end d place i ns past = none_left d place i (drop i ns) (drop-past ns i past)
