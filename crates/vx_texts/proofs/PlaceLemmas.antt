-- Lists of texts by their places.
use Rattle.std.proofs.Common.{◌≡◌, ℕ, ◌+◌, ◌*◌, ◌^◌, ◌<◌, ◌≤◌, List, [], ◌∷◌, ◌++◌, get_or, length, map, Bool, true, false, ◌&&◌, ◌||◌, eqb, Option, Some, None, refl, ◌∙◌, sym, ap, subst, arith}
use Rattle.std.proofs.lemmas.List.{get_or_append_left, get_or_push, length_push}
use Rattle.std.proofs.lemmas.List.FromFn.{get_or-map-range_with_len, length-map-range_with_len, map-range_with_len_more, fill_by_all}
use Rattle.std.proofs.lemmas.List.Sums.{sum_by-cons, sum_by_push}
use Rattle.std.specs.List.{range_with_len}
use Rattle.std.specs.Prelude.{sum_by}
use Rattle.vx_dtype.specs.Types.{Bytes}
use Rattle.vx_words.specs.Words.{bit_of}
use Rattle.vx_words.specs.Truths.{words_for}
use Rattle.vx_words.proofs.BitLemmas.{bit_of_past, at_new, elsewhere}
use Rattle.vx_words.proofs.TruthLemmas.{same_maps}
use Rattle.vx_texts.specs.Texts.{byte_count, byte_total}
use Rattle.vx_texts.specs.Layouts.{bytes_at, text_in, text_of, texts_of, AreTidyTexts, AreBareTexts}

pub length-texts : (v : List ℕ) (ss : List Bytes) → length (texts_of v ss) ≡ length ss
length-texts v ss = length-map-range_with_len (text_in v ss) 0 (length ss)

text_in_texts : (v : List ℕ) (ss : List Bytes) (i : ℕ) → i < length ss → get_or (texts_of v ss) i None ≡ text_in v ss i
text_in_texts v ss i h = get_or-map-range_with_len (text_in v ss) 0 (length ss) i i None h (omega arith)

-- ---- a list that was seen by its words and bytes
module _ (v : List ℕ) (ss : List Bytes) (ts : List (Option Bytes)) (seen : texts_of v ss ≡ ts) where
  pub length_seen : length ts ≡ length ss
  length_seen = sym (ap length seen) ∙ length-texts v ss

  pub text_seen : (i : ℕ) → i < length ts → get_or ts i None ≡ text_in v ss i
  text_seen i h =
      let long = length_seen in
      sym (ap (λ x. get_or x i None) seen) ∙ text_in_texts v ss i (omega arith)

  pub text_there : (i : ℕ) (x : Bool) (s : Bytes) → i < length ts → x ≡ bit_of v i → x ≡ true → s ≡ bytes_at ss i → Some s ≡ get_or ts i None
  text_there i x s h e t p = ap Some p ∙ sym (text_seen i h ∙ ap (λ b. text_of b (bytes_at ss i)) (sym e ∙ t))

  pub null_there : (i : ℕ) (x : Bool) → i < length ts → x ≡ bit_of v i → x ≡ false → None ≡ get_or ts i None
  null_there i x h e t = sym (text_seen i h ∙ ap (λ b. text_of b (bytes_at ss i)) (sym e ∙ t))

  -- a place of the list is one of its words
  pub place_within : (i : ℕ) → AreTidyTexts v ss → i < length ts → (i < 64 * length v) × (i < length ss)
  place_within i tidy h =
      let long = length_seen in
      let p = tidy.valid_length in
      (omega arith, omega arith)

-- ---- no texts
pub tidy_none : AreBareTexts [] []
tidy_none = (record { valid_length = refl; past = λ i h. bit_of_past [] i (omega arith); few = omega arith }, refl)

-- ---- one text more
module _ (v v' : List ℕ) (ss : List Bytes) (known : Bool) (s : Bytes) (tidy : AreTidyTexts v ss)
    (valid : (j : ℕ) → bit_of v' j ≡ ((eqb j (length ss) && known) || bit_of v j)) where
  pub pushed_tidy : length v' ≡ words_for (length ss + 1) → sum_by length ss + length s < 2 ^ 32 → AreTidyTexts v' (ss ++ s ∷ [])
  pushed_tidy p few = record {
    valid_length = p ∙ ap words_for (sym (length_push ss s));
    past = λ i h.
        let long = length_push ss s in
        valid i ∙ elsewhere i (length ss) known (bit_of v i) (λ e. absurd (omega arith)) ∙ tidy.past i (omega arith);
    few = omega (arith, sum_by_push length ss s);
  }

  pub pushed_texts : texts_of v' (ss ++ s ∷ []) ≡ texts_of v ss ++ text_of known s ∷ []
  pushed_texts =
      let all : List Bytes = ss ++ s ∷ [] in
      let front : map (text_in v' all) (range_with_len 0 (length ss)) ≡ texts_of v ss =
      same_maps None (text_in v' all) (text_in v ss) (length ss)
      (λ i h.
      let p = valid i ∙ elsewhere i (length ss) known (bit_of v i) (λ e. omega arith) in
      let q = get_or_append_left ss (s ∷ []) [] i h in
      λ k. text_of (p k) (q k)) in
      let last_bit = valid (length ss) ∙ at_new (length ss) known (bit_of v (length ss)) (tidy.past (length ss) (omega arith)) in
      let last_bytes = get_or_push ss s [] (length ss) refl in
      let end : text_in v' all (length ss) ≡ text_of known s = λ k. text_of (last_bit k) (last_bytes k) in
      ap (λ n. map (text_in v' all) (range_with_len 0 n)) (length_push ss s)
      ∙ map-range_with_len_more (text_in v' all) 0 (length ss) (length ss) (omega arith)
      ∙ λ k. front k ++ end k ∷ []

-- a text, or null, of which no bytes are kept
module _ (v v' : List ℕ) (ss : List Bytes) (known : Bool) (s : Bytes) (t : Option Bytes) (bare : AreBareTexts v ss)
    (valid : (j : ℕ) → bit_of v' j ≡ ((eqb j (length ss) && known) || bit_of v j)) (is_text : text_of known s ≡ t) (count : length s ≡ byte_count t) where
  pub texts_after_push : texts_of v' (ss ++ s ∷ []) ≡ texts_of v ss ++ t ∷ []
  texts_after_push = pushed_texts v v' ss known s bare.0 valid ∙ ap (λ x. texts_of v ss ++ x ∷ []) is_text

  pub bare_after_push : length v' ≡ words_for (length ss + 1) → byte_total (texts_of v ss) + byte_count t < 2 ^ 32 → AreBareTexts v' (ss ++ s ∷ [])
  bare_after_push p few =
      let total = bare.1 in (
        pushed_tidy v v' ss known s bare.0 valid p (omega (arith, total, count, few)),
        ap byte_total texts_after_push ∙ sum_by_push byte_count (texts_of v ss) t ∙ (λ k. total k + sym count k) ∙ sym (sum_by_push length ss s),
      )

-- the same, of a list that was seen as its texts
pub pushed_seen : (v v' : List ℕ) (ss ss' : List Bytes) (known : Bool) (s : Bytes) (t : Option Bytes) (ts : List (Option Bytes)) → texts_of v ss ≡ ts → AreBareTexts v ss
    → ((j : ℕ) → bit_of v' j ≡ ((eqb j (length ss) && known) || bit_of v j)) → text_of known s ≡ t → length s ≡ byte_count t
    → length v' ≡ words_for (length ss + 1) → byte_total ts + byte_count t < 2 ^ 32 → ss' ≡ ss ++ s ∷ []
    → AreBareTexts v' ss' × (texts_of v' ss' ≡ ts ++ t ∷ [])
pushed_seen v v' ss ss' known s t ts seen bare valid is_text count p few e =
    let same = ap byte_total seen in (
      subst (AreBareTexts v') (sym e) (bare_after_push v v' ss known s t bare valid is_text count p (omega (arith, few, same))),
      ap (texts_of v') e ∙ texts_after_push v v' ss known s t bare valid is_text count ∙ ap (λ xs. xs ++ t ∷ []) seen,
    )

-- ---- how many bytes the texts have
count_within : (known : Bool) (s : Bytes) → byte_count (text_of known s) ≤ length s
count_within true s = omega arith
count_within false s = omega arith

total_at_places : (v : List ℕ) (ss : List Bytes) (is : List ℕ) → byte_total (map (text_in v ss) is) ≤ sum_by length (map (bytes_at ss) is)
total_at_places v ss [] = omega arith
total_at_places v ss (i ∷ is) =
    let rest = total_at_places v ss is in
    let here = count_within (bit_of v i) (bytes_at ss i) in
    let left = sum_by-cons byte_count (text_in v ss i) (map (text_in v ss) is) in
    let right = sum_by-cons length (bytes_at ss i) (map (bytes_at ss) is) in
    omega (arith, rest, here, left, right)

-- no more than stand in the buffer
pub total_within : (v : List ℕ) (ss : List Bytes) → byte_total (texts_of v ss) ≤ sum_by length ss
total_within v ss =
    let same = fill_by_all (bytes_at ss) ss (length ss) [] refl (λ i h. refl) in
    let most = total_at_places v ss (range_with_len 0 (length ss)) in
    let whole = ap (sum_by length) same in
    omega (arith, most, whole)

pub few_seen : (v : List ℕ) (ss : List Bytes) (ts : List (Option Bytes)) → texts_of v ss ≡ ts → AreTidyTexts v ss → byte_total ts < 2 ^ 32
few_seen v ss ts seen tidy =
    let most = total_within v ss in
    let few = tidy.few in
    let same = ap byte_total seen in
    omega (arith, most, few, same)
