-- Texts that stand one behind the other in one buffer, by their offsets.
use Rattle.std.proofs.Common.{◌≡◌, ℕ, zero, suc, ◌+◌, ◌-◌, ◌^◌, ◌<◌, ◌≤◌, List, [], ◌∷◌, ◌++◌, get_or, length, map, take, drop, refl, ◌∙◌, sym, ap, subst, arith, inl, inr, length-append, length-drop}
use Rattle.std.proofs.lemmas.Bool.{cases_lt}
use Rattle.std.proofs.lemmas.List.{get_or_append_left, get_or_push, get_or_default, length_push, take_all, take-append-le, drop_at, drop-append-le}
use Rattle.std.proofs.lemmas.List.FromFn.{get_or-map-range_with_len, length-map-range_with_len, map-range_with_len_more, sum_by-map-range_with_len_more}
use Rattle.std.proofs.lemmas.Simd.{length-chunk}
use Rattle.std.proofs.lemmas.Str.{IsCharBoundary-at_seam, IsCharBoundary-end}
use Rattle.std.specs.List.{range_with_len}
use Rattle.std.specs.Prelude.{slice_range, sum_by}
use Rattle.std.specs.Str.{IsCharBoundary, IsUtf8}
use Rattle.vx_words.proofs.TruthLemmas.{same_maps}
use Rattle.vx_texts.specs.Buffers.{text_between, cut_texts, AreOffsets}

pub length-cut : (bs os : List ℕ) → length (cut_texts bs os) ≡ length os - 1
length-cut bs os = length-map-range_with_len (text_between bs os) 0 (length os - 1)

pub cut_at : (bs os : List ℕ) (i : ℕ) → i < length (cut_texts bs os) → get_or (cut_texts bs os) i [] ≡ text_between bs os i
cut_at bs os i h =
    let long = length-cut bs os in
    get_or-map-range_with_len (text_between bs os) 0 (length os - 1) i i [] (omega (arith, long)) (omega arith)

-- ---- a buffer of no texts
pub no_offsets : AreOffsets [] (0 ∷ [])
no_offsets = record {
  some = omega arith;
  first = refl;
  last = refl;
  few = omega arith;
  rising = λ i h. absurd (omega arith);
  cuts = λ i h. let first : i ≡ 0 = omega arith in subst (λ j. IsCharBoundary [] (get_or (0 ∷ []) j 0)) (sym first) (IsCharBoundary-end []);
}

module _ (bs os : List ℕ) (ok : AreOffsets bs os) where
  -- a text stands within the buffer
  pub within : (i : ℕ) → i + 1 < length os → (get_or os i 0 ≤ get_or os (i + 1) 0) × (get_or os (i + 1) 0 ≤ length bs)
  within i h = (ok.rising i h, (ok.cuts (i + 1) h).0)

  length_between : (i : ℕ) → i + 1 < length os → length (text_between bs os i) + get_or os i 0 ≡ get_or os (i + 1) 0
  length_between i h =
      let a : ℕ = get_or os i 0 in
      let b : ℕ = get_or os (i + 1) 0 in
      let low = (within i h).0 in
      let high = (within i h).1 in
      let chunk : length (take (b - a) (drop a bs)) ≡ b - a = length-chunk a (b - a) bs (omega (arith, low, high)) in
      omega (arith, chunk, low)

  total_before : (k : ℕ) → k < length os → sum_by length (map (text_between bs os) (range_with_len 0 k)) ≡ get_or os k 0
  total_before zero h = sym ok.first
  total_before (suc k) h =
      let next : suc k ≡ k + 1 = omega arith in
      let inside : k + 1 < length os = omega (arith, h) in
      let before : sum_by length (map (text_between bs os) (range_with_len 0 k)) ≡ get_or os k 0 = total_before k (omega (arith, h)) in
      let more = sum_by-map-range_with_len_more length (text_between bs os) 0 k k (omega arith) in
      let last = length_between k inside in
      let all : sum_by length (map (text_between bs os) (range_with_len 0 (k + 1))) ≡ get_or os (k + 1) 0 = omega (arith, more, before, last) in
      subst (λ m. sum_by length (map (text_between bs os) (range_with_len 0 m)) ≡ get_or os m 0) (sym next) all

  -- the texts have the bytes of the buffer
  pub total_cut : sum_by length (cut_texts bs os) ≡ length bs
  total_cut = total_before (length os - 1) (let some = ok.some in omega (arith, some)) ∙ ok.last

-- ---- a text that is read between two offsets
module _ (bs os : List ℕ) (ts : List (List ℕ)) (seen : cut_texts bs os ≡ ts) where
  pub length_seen : length ts ≡ length os - 1
  length_seen = sym (ap length seen) ∙ length-cut bs os

  pub place_before : (i : ℕ) → i < length ts → i + 1 < length os
  place_before i h = let long = length_seen in omega (arith, h, long)

  pub text_read : (i from to : ℕ) (s : List ℕ) → i < length ts → from ≡ get_or os i 0 → to ≡ get_or os (i + 1) 0 → s ≡ slice_range bs from to → s ≡ get_or ts i []
  text_read i from to s h p q e =
      let long = ap length seen in
      e ∙ (λ k. slice_range bs (p k) (q k)) ∙ sym (cut_at bs os i (omega (arith, h, long))) ∙ ap (λ l. get_or l i []) seen

pub offset_read : (os : List ℕ) (j x : ℕ) → j < length os → x ≡ get_or os j x → x ≡ get_or os j 0
offset_read os j x h e = e ∙ get_or_default os j x 0 h

-- ---- one text more
module _ (bs s os : List ℕ) (ok : AreOffsets bs os) (text : IsUtf8 s) where
  old_offset : (i : ℕ) → i < length os → get_or (os ++ length (bs ++ s) ∷ []) i 0 ≡ get_or os i 0
  old_offset i h = get_or_append_left os (length (bs ++ s) ∷ []) 0 i h

  new_offset : get_or (os ++ length (bs ++ s) ∷ []) (length os) 0 ≡ length (bs ++ s)
  new_offset = get_or_push os (length (bs ++ s)) 0 (length os) refl

  last_offset : (i : ℕ) → i + 1 ≡ length os → get_or os i 0 ≡ length bs
  last_offset i e = let place : i ≡ length os - 1 = omega (arith, e) in ap (λ j. get_or os j 0) place ∙ ok.last

  cut_stays : (k : ℕ) → IsCharBoundary bs k → IsCharBoundary (bs ++ s) k
  cut_stays k cut =
      let most = cut.0 in
      let long = length-append bs s in
      elim (cases_lt k (length bs)) [
        | inl low ↦ (
          omega (arith, most, long),
          λ h high.
              let same = get_or_append_left bs s 0 k low in
              let lead = cut.1 low (omega (arith, same, high)) in
              omega (arith, same, lead),
        )
        | inr past ↦
            let end : length bs ≡ k = omega (arith, most, past) in
            subst (IsCharBoundary (bs ++ s)) end (IsCharBoundary-at_seam (bs ++ s) bs s refl text)
      ]

  pub pushed_offsets : length (bs ++ s) < 2 ^ 32 → AreOffsets (bs ++ s) (os ++ length (bs ++ s) ∷ [])
  pushed_offsets few =
      let long = length_push os (length (bs ++ s)) in
      let some = ok.some in
      let bytes = length-append bs s in
      record {
        some = omega (arith, long);
        first = old_offset 0 some ∙ ok.first;
        last =
            let place : length (os ++ length (bs ++ s) ∷ []) - 1 ≡ length os = omega (arith, long) in
            ap (λ j. get_or (os ++ length (bs ++ s) ∷ []) j 0) place ∙ new_offset;
        few = few;
        rising = λ i h.
            let low : i < length os = omega (arith, long, h) in
            let here = old_offset i low in
            elim (cases_lt (i + 1) (length os)) [
              | inl next ↦
                  let there = old_offset (i + 1) next in
                  let up = ok.rising i next in
                  omega (arith, here, there, up)
              | inr past ↦
                  let place : i + 1 ≡ length os = omega (arith, low, past) in
                  let there = ap (λ j. get_or (os ++ length (bs ++ s) ∷ []) j 0) place ∙ new_offset in
                  let end = last_offset i place in
                  omega (arith, here, there, end, bytes)
            ];
        cuts = λ i h.
            elim (cases_lt i (length os)) [
              | inl low ↦ subst (IsCharBoundary (bs ++ s)) (sym (old_offset i low)) (cut_stays (get_or os i 0) (ok.cuts i low))
              | inr past ↦
                  let place : i ≡ length os = omega (arith, long, h, past) in
                  let there = ap (λ j. get_or (os ++ length (bs ++ s) ∷ []) j 0) place ∙ new_offset in
                  subst (IsCharBoundary (bs ++ s)) (sym there) (IsCharBoundary-end (bs ++ s))
            ];
      }

  old_text : (i : ℕ) → i + 1 < length os → text_between (bs ++ s) (os ++ length (bs ++ s) ∷ []) i ≡ text_between bs os i
  old_text i h =
      let a : ℕ = get_or os i 0 in
      let b : ℕ = get_or os (i + 1) 0 in
      let low = (within bs os ok i h).0 in
      let high = (within bs os ok i h).1 in
      let rest = length-drop a bs in
      let from = old_offset i (omega (arith, h)) in
      let to = old_offset (i + 1) h in
      (λ k. slice_range (bs ++ s) (from k) (to k))
      ∙ ap (take (b - a)) (drop-append-le a bs s (omega (arith, low, high)))
      ∙ take-append-le (b - a) (drop a bs) s (omega (arith, high, rest))

  new_text : (i : ℕ) → i + 1 ≡ length os → text_between (bs ++ s) (os ++ length (bs ++ s) ∷ []) i ≡ s
  new_text i e =
      let long = length-append bs s in
      let from = old_offset i (omega (arith, e)) ∙ last_offset i e in
      let to = ap (λ j. get_or (os ++ length (bs ++ s) ∷ []) j 0) e ∙ new_offset in
      (λ k. slice_range (bs ++ s) (from k) (to k))
      ∙ ap (take (length (bs ++ s) - length bs)) (drop_at bs s (length bs) refl)
      ∙ take_all (length (bs ++ s) - length bs) s (omega (arith, long))

  pub pushed_texts : cut_texts (bs ++ s) (os ++ length (bs ++ s) ∷ []) ≡ cut_texts bs os ++ s ∷ []
  pushed_texts =
      let f = text_between (bs ++ s) (os ++ length (bs ++ s) ∷ []) in
      let n : ℕ = length os - 1 in
      let some = ok.some in
      let long = length_push os (length (bs ++ s)) in
      let count : length (os ++ length (bs ++ s) ∷ []) - 1 ≡ n + 1 = omega (arith, long, some) in
      let front : map f (range_with_len 0 n) ≡ cut_texts bs os = same_maps [] f (text_between bs os) n (λ i h. old_text i (omega (arith, h))) in
      let last : f n ≡ s = new_text n (omega (arith, some)) in
      ap (λ m. map f (range_with_len 0 m)) count
      ∙ map-range_with_len_more f 0 n n (omega arith)
      ∙ λ k. front k ++ last k ∷ []

-- the same, of a buffer that was seen as its texts
pub pushed_seen : (bs s os bs' os' : List ℕ) (ts : List (List ℕ)) (bs'' os'' : List ℕ) → cut_texts bs os ≡ ts → AreOffsets bs os → IsUtf8 s
    → sum_by length ts + length s < 2 ^ 32 → bs' ≡ bs → os' ≡ os → bs'' ≡ bs' ++ s → os'' ≡ os' ++ length (bs' ++ s) ∷ []
    → AreOffsets bs'' os'' × (cut_texts bs'' os'' ≡ ts ++ s ∷ [])
pushed_seen bs s os bs' os' ts bs'' os'' seen ok text few p q p' q' =
    let total = total_cut bs os ok in
    let whole = ap (sum_by length) seen in
    let long = length-append bs s in
    let fits : length (bs ++ s) < 2 ^ 32 = omega (arith, few, total, whole, long) in
    let bytes : bs ++ s ≡ bs'' = sym (p' ∙ ap (λ b. b ++ s) p) in
    let offsets : os ++ length (bs ++ s) ∷ [] ≡ os'' = sym (q' ∙ λ k. q k ++ length (p k ++ s) ∷ []) in (
      subst (AreOffsets bs'') offsets (subst (λ b. AreOffsets b (os ++ length (bs ++ s) ∷ [])) bytes (pushed_offsets bs s os ok text fits)),
      (λ k. cut_texts (sym bytes k) (sym offsets k)) ∙ pushed_texts bs s os ok text ∙ ap (λ xs. xs ++ s ∷ []) seen,
    )
