-- Lists of numbers by their places.
use Rattle.std.proofs.Common.{◌≡◌, ℕ, zero, suc, ◌+◌, ◌*◌, ◌<◌, List, [], ◌∷◌, ◌++◌, get_or, length, map, Bool, true, false, ◌&&◌, ◌||◌, eqb, nat_lt, cond, Option, Some, None, refl, ◌∙◌, sym, ap, arith}
use Rattle.std.proofs.lemmas.Bool.{lt-ltb, le-ltb}
use Rattle.std.proofs.lemmas.List.{length-replicate, get_or-replicate, get_or-map, get_or_append_left, get_or_push, length_push, length-map, map-append}
use Rattle.std.proofs.lemmas.List.FromFn.{fill_by_all, get_or-map-range_with_len, length-map-range_with_len, map-range_with_len_more}
use Rattle.std.specs.List.{range_with_len}
use Rattle.std.specs.Option.{option_map}
use Rattle.std.specs.Prelude.{ℤ, pos, is_some, replicate}
use Rattle.vx_words.specs.Words.{bit_of}
use Rattle.vx_words.specs.Truths.{words_for}
use Rattle.vx_words.proofs.BitLemmas.{bit_of_past, at_new, elsewhere, and_false, and_true}
use Rattle.vx_words.proofs.TruthLemmas.{same_maps}
use Rattle.vx_numbers.specs.Lanes.{value_at, number_in, number_of, numbers_of, AreTidyNumbers}

pub length-numbers : (v : List ℕ) (zs : List ℤ) → length (numbers_of v zs) ≡ length zs
length-numbers v zs = length-map-range_with_len (number_in v zs) 0 (length zs)

pub number_in_numbers : (v : List ℕ) (zs : List ℤ) (i : ℕ) → i < length zs → get_or (numbers_of v zs) i None ≡ number_in v zs i
number_in_numbers v zs i h = get_or-map-range_with_len (number_in v zs) 0 (length zs) i i None h (omega arith)

-- ---- a list that was seen by its words and values
module _ (v : List ℕ) (zs : List ℤ) (ns : List (Option ℤ)) (seen : numbers_of v zs ≡ ns) where
  pub length_seen : length ns ≡ length zs
  length_seen = sym (ap length seen) ∙ length-numbers v zs

  pub number_seen : (i : ℕ) → i < length ns → get_or ns i None ≡ number_in v zs i
  number_seen i h =
      let long = length_seen in
      sym (ap (λ x. get_or x i None) seen) ∙ number_in_numbers v zs i (omega arith)

  pub number_there : (i : ℕ) (x : Bool) (z : ℤ) → i < length ns → x ≡ bit_of v i → x ≡ true → z ≡ value_at zs i → Some z ≡ get_or ns i None
  number_there i x z h e t p = ap Some p ∙ sym (number_seen i h ∙ ap (λ b. cond b (Some (value_at zs i)) None) (sym e ∙ t))

  pub null_there : (i : ℕ) (x : Bool) → i < length ns → x ≡ bit_of v i → x ≡ false → None ≡ get_or ns i None
  null_there i x h e t = sym (number_seen i h ∙ ap (λ b. cond b (Some (value_at zs i)) None) (sym e ∙ t))

  -- a place of the list is one of its words
  pub place_within : (i : ℕ) → AreTidyNumbers v zs → i < length ns → (i < 64 * length v) × (i < length zs)
  place_within i tidy h =
      let long = length_seen in
      let p = tidy.valid_length in
      (omega arith, omega arith)

pub tidy_none : AreTidyNumbers [] []
tidy_none = record {
  valid_length = refl;
  past = λ i h. bit_of_past [] i (omega arith);
}

-- ---- one number more
module _ (v v' : List ℕ) (zs : List ℤ) (known : Bool) (z : ℤ) (tidy : AreTidyNumbers v zs)
    (valid : (j : ℕ) → bit_of v' j ≡ ((eqb j (length zs) && known) || bit_of v j)) where
  pub pushed_tidy : length v' ≡ words_for (length zs + 1) → AreTidyNumbers v' (zs ++ z ∷ [])
  pushed_tidy p = record {
    valid_length = p ∙ ap words_for (sym (length_push zs z));
    past = λ i h.
        let long = length_push zs z in
        valid i ∙ elsewhere i (length zs) known (bit_of v i) (λ e. absurd (omega arith)) ∙ tidy.past i (omega arith);
  }

  pub pushed_numbers : numbers_of v' (zs ++ z ∷ []) ≡ numbers_of v zs ++ number_of known z ∷ []
  pushed_numbers =
      let all : List ℤ = zs ++ z ∷ [] in
      let front : map (number_in v' all) (range_with_len 0 (length zs)) ≡ numbers_of v zs =
      same_maps None (number_in v' all) (number_in v zs) (length zs)
      (λ i h.
      let p = valid i ∙ elsewhere i (length zs) known (bit_of v i) (λ e. omega arith) in
      let q = get_or_append_left zs (z ∷ []) (pos 0) i h in
      λ k. number_of (p k) (q k)) in
      let last_bit = valid (length zs) ∙ at_new (length zs) known (bit_of v (length zs)) (tidy.past (length zs) (omega arith)) in
      let last_value = get_or_push zs z (pos 0) (length zs) refl in
      let end : number_in v' all (length zs) ≡ number_of known z = λ k. number_of (last_bit k) (last_value k) in
      ap (λ n. map (number_in v' all) (range_with_len 0 n)) (length_push zs z)
      ∙ map-range_with_len_more (number_in v' all) 0 (length zs) (length zs) (omega arith)
      ∙ λ k. front k ++ end k ∷ []

-- ---- one number, or null, many times
module _ (v : List ℕ) (n : ℕ) (t : Option ℤ) (z : ℤ) (value : number_of (is_some t) z ≡ t)
    (valid : (j : ℕ) → bit_of v j ≡ (is_some t && nat_lt j n)) where
  pub repeated_tidy : length v ≡ words_for n → AreTidyNumbers v (replicate n z)
  repeated_tidy p = record {
    valid_length = p ∙ ap words_for (sym (length-replicate n z));
    past = λ i h.
        let long = length-replicate n z in
        valid i ∙ ap (λ x. is_some t && x) (le-ltb i n (omega arith)) ∙ and_false (is_some t);
  }

  pub repeated_numbers : numbers_of v (replicate n z) ≡ replicate n t
  repeated_numbers =
      ap (λ m. map (number_in v (replicate n z)) (range_with_len 0 m)) (length-replicate n z)
      ∙ sym (fill_by_all (number_in v (replicate n z)) (replicate n t) n None (length-replicate n t)
      (λ i h.
      let p = valid i ∙ ap (λ x. is_some t && x) (lt-ltb i n h) ∙ and_true (is_some t) in
      let q = get_or-replicate n i z (pos 0) h in
      get_or-replicate n i t None h ∙ sym ((λ k. number_of (p k) (q k)) ∙ value)))

-- ---- values in the type's own width
module _ {X : Type 0} (f : X → ℤ) where
  pub value_read : (xs : List X) (i : ℕ) (x : X) → i < length xs → x ≡ get_or xs i x → f x ≡ value_at (map f xs) i
  value_read xs i x h e = ap f e ∙ sym (get_or-map f xs i x (pos 0) h)

  pub map-replicate : (n : ℕ) (x : X) → map f (replicate n x) ≡ replicate n (f x)
  map-replicate zero x = refl
  map-replicate (suc n) x = λ k. f x ∷ map-replicate n x k

  pub is_some-option_map : (t : Option X) → is_some t ≡ is_some (option_map f t)
  is_some-option_map None = refl
  is_some-option_map (Some x) = refl

  module _ (v v' : List ℕ) (xs ys : List X) (n : ℕ) (known : Bool) (x : X) (tidy : AreTidyNumbers v (map f xs))
      (long : n ≡ length xs) (bits : (j : ℕ) → bit_of v' j ≡ ((eqb j n && known) || bit_of v j)) (pushed : ys ≡ xs ++ x ∷ []) where
    values_pushed : map f ys ≡ map f xs ++ f x ∷ []
    values_pushed = ap (map f) pushed ∙ map-append f xs (x ∷ [])

    bits_pushed : (j : ℕ) → bit_of v' j ≡ ((eqb j (length (map f xs)) && known) || bit_of v j)
    bits_pushed j = bits j ∙ ap (λ m. (eqb j m && known) || bit_of v j) (long ∙ sym (length-map xs f))

    pub tidy_after_push : length v' ≡ words_for (n + 1) → AreTidyNumbers v' (map f ys)
    tidy_after_push p =
        rw values_pushed
        (pushed_tidy v v' (map f xs) known (f x) tidy bits_pushed (p ∙ ap (λ m. words_for (m + 1)) (long ∙ sym (length-map xs f))))

    pub numbers_after_push : numbers_of v' (map f ys) ≡ numbers_of v (map f xs) ++ number_of known (f x) ∷ []
    numbers_after_push = rw values_pushed (pushed_numbers v v' (map f xs) known (f x) tidy bits_pushed)
