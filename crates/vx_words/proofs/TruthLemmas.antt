-- Lists of truths by their words.
use Rattle.std.proofs.Common.{◌≡◌, ℕ, ◌+◌, ◌*◌, ◌<◌, ◌≤◌, List, [], ◌∷◌, ◌++◌, get_or, length, map, Bool, true, false, ◌&&◌, ◌||◌, eqb, nat_lt, Option, Some, None, refl, ◌∙◌, sym, ap, subst, arith, inl, inr}
use Rattle.std.proofs.lemmas.Bool.{cases_lt, cases_eq, lt-ltb, le-ltb}
use Rattle.std.proofs.lemmas.List.{length-replicate, get_or-replicate}
use Rattle.std.proofs.lemmas.List.FromFn.{fill_by_all, get_or-map-range_with_len, length-map-range_with_len, map-range_with_len_more}
use Rattle.std.proofs.lemmas.Simd.{zip2_of_maps, map-map}
use Rattle.std.specs.List.{range_with_len}
use Rattle.std.specs.Prelude.{is_some, unwrap_or, replicate}
use Rattle.std.specs.Simd.Lanes.{zip2}
use Rattle.vx_dtype.specs.Values.{Val, null_val}
use Rattle.vx_words.specs.Words.{bit_of, truth_of_bits, truth_of_words, truth_val, val_of_words, AreBareUnderNull}
use Rattle.vx_words.specs.Truths.{AreTidy, truths_of_words, vals_of, words_for}
use Rattle.vx_words.proofs.BitLemmas.{bit_of_past, at_new, elsewhere}

-- ---- lists by their places
pub length-truths : (v b : List ℕ) (n : ℕ) → length (truths_of_words v b n) ≡ n
length-truths v b n = length-map-range_with_len (truth_of_words v b) 0 n

pub truth_in_truths : (v b : List ℕ) (n i : ℕ) → i < n → get_or (truths_of_words v b n) i None ≡ truth_of_words v b i
truth_in_truths v b n i h = get_or-map-range_with_len (truth_of_words v b) 0 n i i None h (omega arith)

pub same_maps : {X : Type 0} (d : X) (f g : ℕ → X) (n : ℕ) → ((i : ℕ) → i < n → f i ≡ g i) → map f (range_with_len 0 n) ≡ map g (range_with_len 0 n)
same_maps d f g n each =
    fill_by_all g (map f (range_with_len 0 n)) n d (length-map-range_with_len f 0 n)
    (λ i h. get_or-map-range_with_len f 0 n i i d h (omega arith) ∙ each i h)

-- the words of a list whose truths stand there
pub truths_from : (v b : List ℕ) (ts : List (Option Bool)) (n : ℕ) → length ts ≡ n
    → ((i : ℕ) → i < n → get_or ts i None ≡ truth_of_words v b i) → truths_of_words v b n ≡ ts
truths_from v b ts n long each = sym (fill_by_all (truth_of_words v b) ts n None long each)

pub length_seen : (v b : List ℕ) (n : ℕ) (ts : List (Option Bool)) → truths_of_words v b n ≡ ts → length ts ≡ n
length_seen v b n ts seen = sym (ap length seen) ∙ length-truths v b n

pub truth_seen : (v b : List ℕ) (n : ℕ) (ts : List (Option Bool)) (i : ℕ) → truths_of_words v b n ≡ ts → i < length ts
    → truth_of_words v b i ≡ get_or ts i None
truth_seen v b n ts i seen h =
    let long = length_seen v b n ts seen in
    sym (truth_in_truths v b n i (omega arith)) ∙ ap (λ x. get_or x i None) seen

-- a place of the list is one of its words
pub place_within : (v b : List ℕ) (n : ℕ) (ts : List (Option Bool)) (i : ℕ) → truths_of_words v b n ≡ ts → AreTidy n v b → i < length ts
    → (i < 64 * length v) × (i < 64 * length b)
place_within v b n ts i seen tidy h =
    let long = length_seen v b n ts seen in
    let p = tidy.valid_length in
    let q = tidy.values_length in
    (omega arith, omega arith)

-- ---- where no truth stands
pub bare_everywhere : (v b : List ℕ) → length b ≡ length v → AreBareUnderNull v b → (i : ℕ) → bit_of v i ≡ false → bit_of b i ≡ false
bare_everywhere v b long bare i e =
    elim (cases_lt i (64 * length v)) [ inl low ↦ bare i low e | inr high ↦ bit_of_past b i (omega arith) ]

pub bare_of_tidy : (v b : List ℕ) (n : ℕ) → AreTidy n v b → (i : ℕ) → bit_of v i ≡ false → bit_of b i ≡ false
bare_of_tidy v b n tidy = bare_everywhere v b (tidy.values_length ∙ sym tidy.valid_length) tidy.bare

null_past : (v b : List ℕ) (n : ℕ) → AreTidy n v b → (i : ℕ) → n ≤ i → val_of_words v b i ≡ null_val
null_past v b n tidy i h = ap (λ x. truth_val (truth_of_bits x (bit_of b i))) (tidy.past i h)

null_bit : (x y : Bool) → truth_val (truth_of_bits x y) ≡ null_val → x ≡ false
null_bit false y e = refl
null_bit true y e = cc

pub tidy_none : AreTidy 0 [] []
tidy_none = record {
  valid_length = refl;
  values_length = refl;
  past = λ i h. bit_of_past [] i (omega arith);
  bare = λ i h e. bit_of_past [] i (omega arith);
}

-- ---- one truth more
unset : (t : Option Bool) → is_some t ≡ false → unwrap_or t false ≡ false
unset None e = refl
unset (Some b) e = cc

bits_of_truth : (t : Option Bool) (x y : Bool) → x ≡ is_some t → y ≡ unwrap_or t false → truth_of_bits x y ≡ t
bits_of_truth None x y p q = λ k. truth_of_bits (p k) (q k)
bits_of_truth (Some b) x y p q = λ k. truth_of_bits (p k) (q k)

module _ (v b v' b' : List ℕ) (n : ℕ) (t : Option Bool) (tidy : AreTidy n v b)
    (valid : (j : ℕ) → bit_of v' j ≡ ((eqb j n && is_some t) || bit_of v j))
    (values : (j : ℕ) → bit_of b' j ≡ ((eqb j n && unwrap_or t false) || bit_of b j)) where
  pub pushed_tidy : length v' ≡ words_for (n + 1) → length b' ≡ words_for (n + 1) → AreTidy (n + 1) v' b'
  pushed_tidy p q = record {
    valid_length = p;
    values_length = q;
    past = λ i h. valid i ∙ elsewhere i n (is_some t) (bit_of v i) (λ e. absurd (omega arith)) ∙ tidy.past i (omega arith);
    bare = λ i h e.
        elim (cases_eq i n) [
          | inl same ↦
              let clear : bit_of v n ≡ false = tidy.past n (omega arith) in
              let none : is_some t ≡ false = sym (at_new n (is_some t) (bit_of v n) clear) ∙ sym (valid n) ∙ ap (bit_of v') (sym same) ∙ e in
              ap (bit_of b') same ∙ values n ∙ at_new n (unwrap_or t false) (bit_of b n) (bare_of_tidy v b n tidy n clear) ∙ unset t none
          | inr other ↦
              values i ∙ elsewhere i n (unwrap_or t false) (bit_of b i) other
              ∙ bare_of_tidy v b n tidy i (sym (elsewhere i n (is_some t) (bit_of v i) other) ∙ sym (valid i) ∙ e)
        ];
  }

  pub pushed_truths : truths_of_words v' b' (n + 1) ≡ truths_of_words v b n ++ t ∷ []
  pushed_truths =
      let clear : bit_of v n ≡ false = tidy.past n (omega arith) in
      let front : truths_of_words v' b' n ≡ truths_of_words v b n =
      same_maps None (truth_of_words v' b') (truth_of_words v b) n
      (λ i h.
      let other : i ≡ n → ⊥ = λ e. omega arith in
      let p = valid i ∙ elsewhere i n (is_some t) (bit_of v i) other in
      let q = values i ∙ elsewhere i n (unwrap_or t false) (bit_of b i) other in
      λ k. truth_of_bits (p k) (q k)) in
      let last : truth_of_words v' b' n ≡ t =
      bits_of_truth t _ _ (valid n ∙ at_new n (is_some t) (bit_of v n) clear)
      (values n ∙ at_new n (unwrap_or t false) (bit_of b n) (bare_of_tidy v b n tidy n clear)) in
      map-range_with_len_more (truth_of_words v' b') 0 n n (omega arith) ∙ λ k. front k ++ last k ∷ []

-- ---- one truth, many times
module _ (v b : List ℕ) (n : ℕ) (t : Option Bool)
    (valid : (j : ℕ) → bit_of v j ≡ (is_some t && nat_lt j n)) (values : (j : ℕ) → bit_of b j ≡ (unwrap_or t false && nat_lt j n)) where
  under : (x y : Bool) → y ≡ true → (x && y) ≡ x
  under false y e = refl
  under true y e = e

  over : (x y : Bool) → y ≡ false → (x && y) ≡ false
  over false y e = refl
  over true y e = e

  pub repeated_tidy : length v ≡ words_for n → length b ≡ words_for n → AreTidy n v b
  repeated_tidy p q = record {
    valid_length = p;
    values_length = q;
    past = λ i h. valid i ∙ over (is_some t) (nat_lt i n) (le-ltb i n h);
    bare = λ i h e.
        elim (cases_lt i n) [
          | inl low ↦
              let none : is_some t ≡ false = sym (under (is_some t) (nat_lt i n) (lt-ltb i n low)) ∙ sym (valid i) ∙ e in
              values i ∙ under (unwrap_or t false) (nat_lt i n) (lt-ltb i n low) ∙ unset t none
          | inr high ↦ values i ∙ over (unwrap_or t false) (nat_lt i n) (le-ltb i n high)
        ];
  }

  pub repeated_truths : truths_of_words v b n ≡ replicate n t
  repeated_truths =
      truths_from v b (replicate n t) n (length-replicate n t)
      (λ i h. get_or-replicate n i t None h
      ∙ sym (bits_of_truth t _ _ (valid i ∙ under (is_some t) (nat_lt i n) (lt-ltb i n h))
      (values i ∙ under (unwrap_or t false) (nat_lt i n) (lt-ltb i n h))))

-- ---- the connectives
module _ (f : Val → Val → Val) (lv lb rv rb ov ob : List ℕ) (n : ℕ) (left : AreTidy n lv lb) (right : AreTidy n rv rb)
    (made : (i : ℕ) → i < 64 * length lv → val_of_words ov ob i ≡ f (val_of_words lv lb i) (val_of_words rv rb i)) where
  pub both_tidy : f null_val null_val ≡ null_val → length ov ≡ length lv → length ob ≡ length lv → AreBareUnderNull ov ob → AreTidy n ov ob
  both_tidy null p q bare = record {
    valid_length = p ∙ left.valid_length;
    values_length = q ∙ left.valid_length;
    past = λ i h.
        elim (cases_lt i (64 * length lv)) [
          | inl low ↦
              null_bit (bit_of ov i) (bit_of ob i)
              (made i low ∙ (λ k. f (null_past lv lb n left i h k) (null_past rv rb n right i h k)) ∙ null)
          | inr high ↦ bit_of_past ov i (omega arith)
        ];
    bare = bare;
  }

  pub both_vals : vals_of (truths_of_words ov ob n) ≡ zip2 f (vals_of (truths_of_words lv lb n)) (vals_of (truths_of_words rv rb n))
  both_vals =
      let range : List ℕ = range_with_len 0 n in
      let size = left.valid_length in
      map-map truth_val (truth_of_words ov ob) range
      ∙ same_maps null_val (val_of_words ov ob) (λ i. f (val_of_words lv lb i) (val_of_words rv rb i)) n (λ i h. made i (omega arith))
      ∙ sym (zip2_of_maps f (val_of_words lv lb) (val_of_words rv rb) range
      (map-map truth_val (truth_of_words lv lb) range)
      (map-map truth_val (truth_of_words rv rb) range))

module _ (f : Val → Val) (v b ov ob : List ℕ) (n : ℕ) (taken : AreTidy n v b)
    (made : (i : ℕ) → i < 64 * length v → val_of_words ov ob i ≡ f (val_of_words v b i)) where
  pub one_tidy : f null_val ≡ null_val → length ov ≡ length v → length ob ≡ length v → AreBareUnderNull ov ob → AreTidy n ov ob
  one_tidy null p q bare = record {
    valid_length = p ∙ taken.valid_length;
    values_length = q ∙ taken.valid_length;
    past = λ i h.
        elim (cases_lt i (64 * length v)) [
          | inl low ↦ null_bit (bit_of ov i) (bit_of ob i) (made i low ∙ ap f (null_past v b n taken i h) ∙ null)
          | inr high ↦ bit_of_past ov i (omega arith)
        ];
    bare = bare;
  }

  pub one_vals : vals_of (truths_of_words ov ob n) ≡ map f (vals_of (truths_of_words v b n))
  one_vals =
      let range : List ℕ = range_with_len 0 n in
      let size = taken.valid_length in
      map-map truth_val (truth_of_words ov ob) range
      ∙ same_maps null_val (val_of_words ov ob) (λ i. f (val_of_words v b i)) n (λ i h. made i (omega arith))
      ∙ sym (ap (map f) (map-map truth_val (truth_of_words v b) range) ∙ map-map f (val_of_words v b) range)

-- ---- the connectives of lists that were seen by their words
module _ (f : Val → Val → Val) (lv lb rv rb ov ob : List ℕ) (ls rs : List (Option Bool)) (same : length rs ≡ length ls)
    (seen_left : truths_of_words lv lb (length ls) ≡ ls) (left : AreTidy (length ls) lv lb)
    (seen_right : truths_of_words rv rb (length rs) ≡ rs) (right : AreTidy (length rs) rv rb) where
  pub both_tidy_seen : f null_val null_val ≡ null_val → length ov ≡ length lv → length ob ≡ length lv
      → ((i : ℕ) → i < 64 * length lv → val_of_words ov ob i ≡ f (val_of_words lv lb i) (val_of_words rv rb i))
      → AreBareUnderNull ov ob → AreTidy (length ls) ov ob
  both_tidy_seen null p q made bare =
      both_tidy f lv lb rv rb ov ob (length ls) left (subst (λ n. AreTidy n rv rb) same right) made null p q bare

  pub both_vals_seen : ((i : ℕ) → i < 64 * length lv → val_of_words ov ob i ≡ f (val_of_words lv lb i) (val_of_words rv rb i))
      → vals_of (truths_of_words ov ob (length ls)) ≡ zip2 f (vals_of ls) (vals_of rs)
  both_vals_seen made =
      both_vals f lv lb rv rb ov ob (length ls) left (subst (λ n. AreTidy n rv rb) same right) made
      ∙ λ k. zip2 f (vals_of (seen_left k)) (vals_of ((ap (truths_of_words rv rb) (sym same) ∙ seen_right) k))

module _ (f : Val → Val) (v b ov ob : List ℕ) (ts : List (Option Bool))
    (seen : truths_of_words v b (length ts) ≡ ts) (taken : AreTidy (length ts) v b) where
  pub one_vals_seen : ((i : ℕ) → i < 64 * length v → val_of_words ov ob i ≡ f (val_of_words v b i))
      → vals_of (truths_of_words ov ob (length ts)) ≡ map f (vals_of ts)
  one_vals_seen made = one_vals f v b ov ob (length ts) taken made ∙ ap (λ x. map f (vals_of x)) seen
