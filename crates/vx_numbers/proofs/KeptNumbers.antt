-- What is kept of numbers: what is kept of their values, null at the kept places of nulls.
use Rattle.std.proofs.Common.{◌≡◌, ℕ, List, [], ◌∷◌, length, map, Bool, true, false, ◌&&◌, nat_lt, cond, Option, Some, None, refl, ◌∙◌, sym, ap, arith}
use Rattle.std.proofs.lemmas.Bool.{lt-ltb}
use Rattle.std.proofs.lemmas.List.{get_or-map, length-map}
use Rattle.std.proofs.lemmas.List.FromFn.{fill_by_all}
use Rattle.std.proofs.lemmas.List.Sums.{sum_by-cons}
use Rattle.std.proofs.lemmas.Simd.{map-map, zip2_of_maps}
use Rattle.std.specs.List.{range_with_len}
use Rattle.std.specs.Prelude.{ℤ, pos, count_by}
use Rattle.std.specs.Simd.Lanes.{zip2}
use Rattle.vx_words.specs.Words.{bit_of}
use Rattle.vx_words.specs.Truths.{is_true, hidden_if, kept_items}
use Rattle.vx_words.proofs.KeptLemmas.{kept_map, kept_zip}
use Rattle.vx_numbers.specs.Numbers.{null_test}
use Rattle.vx_numbers.specs.Lanes.{value_at, number_in, number_of, numbers_of}
use Rattle.vx_numbers.proofs.PlaceLemmas.{length_seen}

-- ---- numbers none of which is null
module _ (v : List ℕ) (zs : List ℤ) (bits : (j : ℕ) → bit_of v j ≡ (true && nat_lt j (length zs))) where
  pub known_numbers : numbers_of v zs ≡ map Some zs
  known_numbers =
      sym (fill_by_all (number_in v zs) (map Some zs) (length zs) None (length-map zs Some)
      (λ i h. get_or-map Some zs i (pos 0) None h
      ∙ ap (λ b. number_of b (value_at zs i)) (sym (bits i ∙ lt-ltb i (length zs) h))))

-- a list is that of its values, all of them known
pub known_values : {X : Type 0} (f : X → ℤ) (v : List ℕ) (xs ys : List X) (n : ℕ) (ns : List (Option ℤ))
    → ((j : ℕ) → bit_of v j ≡ (true && nat_lt j n)) → n ≡ length xs → ns ≡ numbers_of v (map f xs) → xs ≡ ys → ns ≡ map Some (map f ys)
known_values f v xs ys n ns bits size e same =
    e
    ∙ known_numbers v (map f xs) (λ j. bits j ∙ ap (λ m. true && nat_lt j m) (size ∙ sym (length-map xs f)))
    ∙ ap (λ zs. map Some (map f zs)) same

-- ---- numbers are their values, null where they are null
hidden_table : (b : Bool) (z : ℤ) → hidden_if (Some z) (null_test (number_of b z)) ≡ number_of b z
hidden_table false z = refl
hidden_table true z = refl

none_hidden : (ns : List (Option ℤ)) (ts : List (Option Bool)) → length ns ≡ length ts → count_by is_true ts ≡ 0 → zip2 hidden_if ns ts ≡ ns
none_hidden [] [] h none = refl
none_hidden [] (t ∷ ts) h none = absurd (omega arith)
none_hidden (n ∷ ns) [] h none = absurd (omega arith)
none_hidden (n ∷ ns) (Some true ∷ ts) h none = absurd (omega (arith, none, sum_by-cons (λ t. cond (is_true t) 1 0) (Some true) ts))
none_hidden (n ∷ ns) (Some false ∷ ts) h none =
    let fewer : count_by is_true ts ≡ 0 = omega (arith, none, sum_by-cons (λ t. cond (is_true t) 1 0) (Some false) ts) in
    ap (λ ms. n ∷ ms) (none_hidden ns ts (omega arith) fewer)
none_hidden (n ∷ ns) (None ∷ ts) h none =
    let fewer : count_by is_true ts ≡ 0 = omega (arith, none, sum_by-cons (λ t. cond (is_true t) 1 0) None ts) in
    ap (λ ms. n ∷ ms) (none_hidden ns ts (omega arith) fewer)

module _ {X : Type 0} (f : X → ℤ) (v : List ℕ) (xs : List X) (ns : List (Option ℤ)) (ks : List (Option Bool)) (seen : numbers_of v (map f xs) ≡ ns) where
  values_hidden : zip2 hidden_if (map Some (map f xs)) (map null_test ns) ≡ ns
  values_hidden =
      let zs : List ℤ = map f xs in
      let range : List ℕ = range_with_len 0 (length zs) in
      zip2_of_maps hidden_if (λ i. Some (value_at zs i)) (λ i. null_test (number_in v zs i)) range
      (fill_by_all (λ i. Some (value_at zs i)) (map Some zs) (length zs) None (length-map zs Some) (λ i h. get_or-map Some zs i (pos 0) None h))
      (ap (map null_test) (sym seen) ∙ map-map null_test (number_in v zs) range)
      ∙ (λ k. map (λ i. hidden_table (bit_of v i) (value_at zs i) k) range)
      ∙ seen

  as_many : length (map Some (map f xs)) ≡ length (map null_test ns)
  as_many =
      length-map (map f xs) Some ∙ sym (length-map ns null_test ∙ length_seen v (map f xs) ns seen)

  -- kept values, null where the nulls that are kept are true
  pub kept_hidden : zip2 hidden_if (map Some (map f (kept_items xs ks))) (kept_items (map null_test ns) ks) ≡ kept_items ns ks
  kept_hidden =
      ap (λ ms. zip2 hidden_if ms (kept_items (map null_test ns) ks)) (sym (kept_map Some (map f xs) ks ∙ ap (map Some) (kept_map f xs ks)))
      ∙ sym (kept_zip hidden_if (map Some (map f xs)) (map null_test ns) ks as_many)
      ∙ ap (λ ms. kept_items ms ks) values_hidden

  -- kept values, where none is null
  pub kept_known : count_by is_true (map null_test ns) ≡ 0 → map Some (map f (kept_items xs ks)) ≡ kept_items ns ks
  kept_known none =
      sym (kept_map Some (map f xs) ks ∙ ap (map Some) (kept_map f xs ks))
      ∙ ap (λ ms. kept_items ms ks) (sym (none_hidden (map Some (map f xs)) (map null_test ns) as_many none) ∙ values_hidden)
