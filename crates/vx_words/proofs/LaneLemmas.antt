-- From vectors of words to the words of lists.
use Rattle.std.proofs.Common.{◌≡◌, ℕ, ◌+◌, ◌-◌, ◌*◌, ◌/◌, ◌%◌, ◌<◌, ◌≤◌, List, get_or, length, map, ◌∙◌, sym, ap, arith, w64, Fits}
use Rattle.std.proofs.lemmas.List.FromFn.{fill_by_all, get_or-map-range_with_len, length-map-range_with_len}
use Rattle.std.proofs.lemmas.Simd.{length-chunk, get_or-chunk, zip2_of_maps, map-map, get_or-put_chunk_at, get_or-put_chunk_below}
use Rattle.std.specs.List.{range_with_len}
use Rattle.std.specs.Simd.Lanes.{zip2, chunk, put_chunk}
use Rattle.std.specs.Prelude.{bit_and, bit_or}
use Rattle.std.specs.Int.{bit_not}
use Rattle.vx_dtype.specs.Logic.{and3, or3, not3}
use Rattle.vx_words.specs.Words.{val_of_words, Holds, KeepFirst}
use Rattle.vx_words.proofs.WordLemmas.{and_valid, and_value, or_valid, or_value, not_value, and_place, or_place, not_place}

-- each number of a list fits a word
abbrev pub AllFit : List ℕ → Type 0
AllFit xs = (k : ℕ) → Fits w64 (get_or xs k 0)

-- ---- vectors, lane by lane
loaded : (k n : ℕ) (xs : List ℕ) → k + n ≤ length xs → chunk k n xs ≡ map (λ j. get_or xs (k + j) 0) (range_with_len 0 n)
loaded k n xs h = fill_by_all (λ j. get_or xs (k + j) 0) (chunk k n xs) n 0 (length-chunk k n xs h) (λ j l. get_or-chunk k n xs j 0 l)

flipped : (k n : ℕ) (xs : List ℕ) → k + n ≤ length xs
    → map (bit_not w64) (chunk k n xs) ≡ map (λ j. bit_not w64 (get_or xs (k + j) 0)) (range_with_len 0 n)
flipped k n xs h = ap (map (bit_not w64)) (loaded k n xs h) ∙ map-map (bit_not w64) (λ j. get_or xs (k + j) 0) (range_with_len 0 n)

-- what is stored at k stands there
stored : (f : ℕ → ℕ) (k n : ℕ) (old lanes : List ℕ) (j : ℕ) → lanes ≡ map f (range_with_len 0 n) → k + n ≤ length old
    → k ≤ j → j < k + n → get_or (put_chunk k old lanes) j 0 ≡ f (j - k)
stored f k n old lanes j e room lo hi =
    let long : length lanes ≡ n = ap length e ∙ length-map-range_with_len f 0 n in
    let at : k + (j - k) ≡ j = omega arith in
    ap (λ x. get_or (put_chunk k old lanes) x 0) (sym at)
    ∙ get_or-put_chunk_at k old lanes (j - k) 0 (omega arith) (omega arith)
    ∙ ap (λ x. get_or x (j - k) 0) e
    ∙ get_or-map-range_with_len f 0 n (j - k) (j - k) 0 (omega arith) (omega arith)

pub KeepFirst-put_chunk : (k : ℕ) (old lanes : List ℕ) → KeepFirst k old (put_chunk k old lanes)
KeepFirst-put_chunk k old lanes j h = get_or-put_chunk_below k old lanes j 0 h

-- ---- the vectors of the three connectives
module _ (lv lb rv rb : List ℕ) (k n : ℕ) where
  abbrev pub and_valid_lanes : List ℕ
  and_valid_lanes =
      zip2 bit_or
      (zip2 bit_or (zip2 bit_and (chunk k n lv) (chunk k n rv)) (zip2 bit_and (chunk k n lv) (map (bit_not w64) (chunk k n lb))))
      (zip2 bit_and (chunk k n rv) (map (bit_not w64) (chunk k n rb)))

  abbrev pub and_value_lanes : List ℕ
  and_value_lanes = zip2 bit_and (zip2 bit_and (zip2 bit_and (chunk k n lv) (chunk k n lb)) (chunk k n rv)) (chunk k n rb)

  and_valid_is : k + n ≤ length lv → k + n ≤ length lb → k + n ≤ length rv → k + n ≤ length rb
      → and_valid_lanes ≡ map (λ j. and_valid (get_or lv (k + j) 0) (get_or lb (k + j) 0) (get_or rv (k + j) 0) (get_or rb (k + j) 0)) (range_with_len 0 n)
  and_valid_is p q r s =
      let vs : List ℕ = range_with_len 0 n in
      let a : ℕ → ℕ = λ j. get_or lv (k + j) 0 in
      let b : ℕ → ℕ = λ j. bit_not w64 (get_or lb (k + j) 0) in
      let c : ℕ → ℕ = λ j. get_or rv (k + j) 0 in
      let d : ℕ → ℕ = λ j. bit_not w64 (get_or rb (k + j) 0) in
      let both = zip2_of_maps bit_and a c vs (loaded k n lv p) (loaded k n rv r) in
      let left = zip2_of_maps bit_and a b vs (loaded k n lv p) (flipped k n lb q) in
      let right = zip2_of_maps bit_and c d vs (loaded k n rv r) (flipped k n rb s) in
      zip2_of_maps bit_or (λ j. bit_or (bit_and (a j) (c j)) (bit_and (a j) (b j))) (λ j. bit_and (c j) (d j)) vs
      (zip2_of_maps bit_or (λ j. bit_and (a j) (c j)) (λ j. bit_and (a j) (b j)) vs both left)
      right

  and_value_is : k + n ≤ length lv → k + n ≤ length lb → k + n ≤ length rv → k + n ≤ length rb
      → and_value_lanes ≡ map (λ j. and_value (get_or lv (k + j) 0) (get_or lb (k + j) 0) (get_or rv (k + j) 0) (get_or rb (k + j) 0)) (range_with_len 0 n)
  and_value_is p q r s =
      let vs : List ℕ = range_with_len 0 n in
      let a : ℕ → ℕ = λ j. get_or lv (k + j) 0 in
      let b : ℕ → ℕ = λ j. get_or lb (k + j) 0 in
      let c : ℕ → ℕ = λ j. get_or rv (k + j) 0 in
      let d : ℕ → ℕ = λ j. get_or rb (k + j) 0 in
      zip2_of_maps bit_and (λ j. bit_and (bit_and (a j) (b j)) (c j)) d vs
      (zip2_of_maps bit_and (λ j. bit_and (a j) (b j)) c vs
      (zip2_of_maps bit_and a b vs (loaded k n lv p) (loaded k n lb q)) (loaded k n rv r))
      (loaded k n rb s)

  pub and_lanes : (ov ob : List ℕ) (i : ℕ) → AllFit lb → AllFit rb → k + n ≤ length lv → length lb ≡ length lv
      → length rv ≡ length lv → length rb ≡ length lv → length ov ≡ length lv → length ob ≡ length lv
      → 64 * k ≤ i → i < 64 * (k + n)
      → Holds (put_chunk k ov and_valid_lanes) (put_chunk k ob and_value_lanes) i (and3 (val_of_words lv lb i) (val_of_words rv rb i))
  and_lanes ov ob i fl fr room b v w x y lo hi =
      let j : ℕ = i / 64 in
      let at : k + (j - k) ≡ j = omega arith in
      let valid = stored (λ j. and_valid (get_or lv (k + j) 0) (get_or lb (k + j) 0) (get_or rv (k + j) 0) (get_or rb (k + j) 0)) k n ov
      and_valid_lanes j (and_valid_is (omega arith) (omega arith) (omega arith) (omega arith)) (omega arith) (omega arith) (omega arith) in
      let value = stored (λ j. and_value (get_or lv (k + j) 0) (get_or lb (k + j) 0) (get_or rv (k + j) 0) (get_or rb (k + j) 0)) k n ob
      and_value_lanes j (and_value_is (omega arith) (omega arith) (omega arith) (omega arith)) (omega arith) (omega arith) (omega arith) in
      and_place (get_or lv j 0) (get_or lb j 0) (get_or rv j 0) (get_or rb j 0) _ _ (i % 64) (fl j) (fr j) (omega arith)
      (rw at at valid, rw at at value)

  abbrev pub or_valid_lanes : List ℕ
  or_valid_lanes =
      zip2 bit_or
      (zip2 bit_or (zip2 bit_and (chunk k n lv) (chunk k n rv)) (zip2 bit_and (chunk k n lv) (chunk k n lb)))
      (zip2 bit_and (chunk k n rv) (chunk k n rb))

  abbrev pub or_value_lanes : List ℕ
  or_value_lanes = zip2 bit_or (zip2 bit_and (chunk k n lv) (chunk k n lb)) (zip2 bit_and (chunk k n rv) (chunk k n rb))

  or_valid_is : k + n ≤ length lv → k + n ≤ length lb → k + n ≤ length rv → k + n ≤ length rb
      → or_valid_lanes ≡ map (λ j. or_valid (get_or lv (k + j) 0) (get_or lb (k + j) 0) (get_or rv (k + j) 0) (get_or rb (k + j) 0)) (range_with_len 0 n)
  or_valid_is p q r s =
      let vs : List ℕ = range_with_len 0 n in
      let a : ℕ → ℕ = λ j. get_or lv (k + j) 0 in
      let b : ℕ → ℕ = λ j. get_or lb (k + j) 0 in
      let c : ℕ → ℕ = λ j. get_or rv (k + j) 0 in
      let d : ℕ → ℕ = λ j. get_or rb (k + j) 0 in
      let both = zip2_of_maps bit_and a c vs (loaded k n lv p) (loaded k n rv r) in
      let left = zip2_of_maps bit_and a b vs (loaded k n lv p) (loaded k n lb q) in
      let right = zip2_of_maps bit_and c d vs (loaded k n rv r) (loaded k n rb s) in
      zip2_of_maps bit_or (λ j. bit_or (bit_and (a j) (c j)) (bit_and (a j) (b j))) (λ j. bit_and (c j) (d j)) vs
      (zip2_of_maps bit_or (λ j. bit_and (a j) (c j)) (λ j. bit_and (a j) (b j)) vs both left)
      right

  or_value_is : k + n ≤ length lv → k + n ≤ length lb → k + n ≤ length rv → k + n ≤ length rb
      → or_value_lanes ≡ map (λ j. or_value (get_or lv (k + j) 0) (get_or lb (k + j) 0) (get_or rv (k + j) 0) (get_or rb (k + j) 0)) (range_with_len 0 n)
  or_value_is p q r s =
      let vs : List ℕ = range_with_len 0 n in
      let a : ℕ → ℕ = λ j. get_or lv (k + j) 0 in
      let b : ℕ → ℕ = λ j. get_or lb (k + j) 0 in
      let c : ℕ → ℕ = λ j. get_or rv (k + j) 0 in
      let d : ℕ → ℕ = λ j. get_or rb (k + j) 0 in
      zip2_of_maps bit_or (λ j. bit_and (a j) (b j)) (λ j. bit_and (c j) (d j)) vs
      (zip2_of_maps bit_and a b vs (loaded k n lv p) (loaded k n lb q))
      (zip2_of_maps bit_and c d vs (loaded k n rv r) (loaded k n rb s))

  pub or_lanes : (ov ob : List ℕ) (i : ℕ) → k + n ≤ length lv → length lb ≡ length lv
      → length rv ≡ length lv → length rb ≡ length lv → length ov ≡ length lv → length ob ≡ length lv
      → 64 * k ≤ i → i < 64 * (k + n)
      → Holds (put_chunk k ov or_valid_lanes) (put_chunk k ob or_value_lanes) i (or3 (val_of_words lv lb i) (val_of_words rv rb i))
  or_lanes ov ob i room b v w x y lo hi =
      let j : ℕ = i / 64 in
      let at : k + (j - k) ≡ j = omega arith in
      let valid = stored (λ j. or_valid (get_or lv (k + j) 0) (get_or lb (k + j) 0) (get_or rv (k + j) 0) (get_or rb (k + j) 0)) k n ov
      or_valid_lanes j (or_valid_is (omega arith) (omega arith) (omega arith) (omega arith)) (omega arith) (omega arith) (omega arith) in
      let value = stored (λ j. or_value (get_or lv (k + j) 0) (get_or lb (k + j) 0) (get_or rv (k + j) 0) (get_or rb (k + j) 0)) k n ob
      or_value_lanes j (or_value_is (omega arith) (omega arith) (omega arith) (omega arith)) (omega arith) (omega arith) (omega arith) in
      or_place (get_or lv j 0) (get_or lb j 0) (get_or rv j 0) (get_or rb j 0) _ _ (i % 64) (rw at at valid, rw at at value)

module _ (v b : List ℕ) (k n : ℕ) where
  abbrev pub not_value_lanes : List ℕ
  not_value_lanes = zip2 bit_and (chunk k n v) (map (bit_not w64) (chunk k n b))

  not_value_is : k + n ≤ length v → k + n ≤ length b
      → not_value_lanes ≡ map (λ j. not_value (get_or v (k + j) 0) (get_or b (k + j) 0)) (range_with_len 0 n)
  not_value_is p q =
      zip2_of_maps bit_and (λ j. get_or v (k + j) 0) (λ j. bit_not w64 (get_or b (k + j) 0)) (range_with_len 0 n)
      (loaded k n v p) (flipped k n b q)

  pub not_lanes : (ov ob : List ℕ) (i : ℕ) → AllFit b → k + n ≤ length v → length b ≡ length v
      → length ov ≡ length v → length ob ≡ length v → 64 * k ≤ i → i < 64 * (k + n)
      → Holds (put_chunk k ov (chunk k n v)) (put_chunk k ob not_value_lanes) i (not3 (val_of_words v b i))
  not_lanes ov ob i fits room long x y lo hi =
      let j : ℕ = i / 64 in
      let at : k + (j - k) ≡ j = omega arith in
      let valid = stored (λ j. get_or v (k + j) 0) k n ov (chunk k n v) j (loaded k n v (omega arith)) (omega arith) (omega arith) (omega arith) in
      let value = stored (λ j. not_value (get_or v (k + j) 0) (get_or b (k + j) 0)) k n ob not_value_lanes j
      (not_value_is (omega arith) (omega arith)) (omega arith) (omega arith) (omega arith) in
      not_place (get_or v j 0) (get_or b j 0) _ _ (i % 64) (fits j) (omega arith) (rw at at valid, rw at at value)
