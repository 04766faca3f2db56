-- Kleene's logic on one word, and from words to lists of words.
use Rattle.std.proofs.Common.{◌≡◌, ℕ, ◌-◌, ◌<◌, Bool, true, false, not, ◌&&◌, ◌||◌, eqb, refl, ◌∙◌, ap, arith, w64, min, max, Fits}
use Rattle.std.proofs.lemmas.Bool.Decides.{nat_tests}
use Rattle.std.proofs.lemmas.Nat.Bits.{bit_at_and, bit_at_or, bit_at_not, bit_at-lt}
use Rattle.std.specs.Prelude.{bit_and, bit_or}
use Rattle.std.specs.Int.{bit_not}
use Rattle.vx_dtype.specs.Values.{Val}
use Rattle.vx_dtype.specs.Logic.{and3, or3, not3}
use Rattle.vx_words.specs.Words.{word_bit, truth_of_bits, truth_val}

-- ---- bits of one word as truths
eqb_min : (x y : ℕ) → x < 2 → y < 2 → eqb (min x y) 1 ≡ (eqb x 1 && eqb y 1)
eqb_min x y p q = grind (arith, nat_tests)

eqb_max : (x y : ℕ) → x < 2 → y < 2 → eqb (max x y) 1 ≡ (eqb x 1 || eqb y 1)
eqb_max x y p q = grind (arith, nat_tests)

eqb_flip : (x : ℕ) → x < 2 → eqb (1 - x) 1 ≡ not (eqb x 1)
eqb_flip x p = grind (arith, nat_tests)

pub word_bit-and : (a b i : ℕ) → word_bit (bit_and a b) i ≡ (word_bit a i && word_bit b i)
word_bit-and a b i = ap (λ x. eqb x 1) (bit_at_and a b i) ∙ eqb_min _ _ (bit_at-lt a i) (bit_at-lt b i)

pub word_bit-or : (a b i : ℕ) → word_bit (bit_or a b) i ≡ (word_bit a i || word_bit b i)
word_bit-or a b i = ap (λ x. eqb x 1) (bit_at_or a b i) ∙ eqb_max _ _ (bit_at-lt a i) (bit_at-lt b i)

pub word_bit-not : (a i : ℕ) → Fits w64 a → i < 64 → word_bit (bit_not w64 a) i ≡ not (word_bit a i)
word_bit-not a i f h = ap (λ x. eqb x 1) (bit_at_not w64 a i f.fits h) ∙ eqb_flip _ (bit_at-lt a i)

-- ---- the words that the three connectives make of one word of each list
abbrev pub and_valid : ℕ → ℕ → ℕ → ℕ → ℕ
and_valid lv lb rv rb = bit_or (bit_or (bit_and lv rv) (bit_and lv (bit_not w64 lb))) (bit_and rv (bit_not w64 rb))

abbrev pub and_value : ℕ → ℕ → ℕ → ℕ → ℕ
and_value lv lb rv rb = bit_and (bit_and (bit_and lv lb) rv) rb

abbrev pub or_valid : ℕ → ℕ → ℕ → ℕ → ℕ
or_valid lv lb rv rb = bit_or (bit_or (bit_and lv rv) (bit_and lv lb)) (bit_and rv rb)

abbrev pub or_value : ℕ → ℕ → ℕ → ℕ → ℕ
or_value lv lb rv rb = bit_or (bit_and lv lb) (bit_and rv rb)

abbrev pub not_value : ℕ → ℕ → ℕ
not_value v b = bit_and v (bit_not w64 b)

-- ---- their bits
and_valid_bit : (lv lb rv rb i : ℕ) → Fits w64 lb → Fits w64 rb → i < 64
    → word_bit (and_valid lv lb rv rb) i
    ≡ (((word_bit lv i && word_bit rv i) || (word_bit lv i && not (word_bit lb i))) || (word_bit rv i && not (word_bit rb i)))
and_valid_bit lv lb rv rb i p q h =
    let nl = word_bit-not lb i p h in
    let nr = word_bit-not rb i q h in
    simp (word_bit-or, word_bit-and, nl, nr)

and_value_bit : (lv lb rv rb i : ℕ)
    → word_bit (and_value lv lb rv rb) i ≡ (((word_bit lv i && word_bit lb i) && word_bit rv i) && word_bit rb i)
and_value_bit lv lb rv rb i = simp word_bit-and

or_valid_bit : (lv lb rv rb i : ℕ)
    → word_bit (or_valid lv lb rv rb) i
    ≡ (((word_bit lv i && word_bit rv i) || (word_bit lv i && word_bit lb i)) || (word_bit rv i && word_bit rb i))
or_valid_bit lv lb rv rb i = simp (word_bit-or, word_bit-and)

or_value_bit : (lv lb rv rb i : ℕ)
    → word_bit (or_value lv lb rv rb) i ≡ ((word_bit lv i && word_bit lb i) || (word_bit rv i && word_bit rb i))
or_value_bit lv lb rv rb i = simp (word_bit-or, word_bit-and)

not_value_bit : (v b i : ℕ) → Fits w64 b → i < 64 → word_bit (not_value v b) i ≡ (word_bit v i && not (word_bit b i))
not_value_bit v b i p h = let n = word_bit-not b i p h in simp (word_bit-and, n)

-- ---- two bits hold this value, and the second is not set where the first is not
abbrev pub HoldBarely : Bool → Bool → Val → Type 0
HoldBarely valid value v = (truth_val (truth_of_bits valid value) ≡ v) × (valid ≡ false → value ≡ false)

and_table : (a b c d : Bool)
    → HoldBarely (((a && c) || (a && not b)) || (c && not d)) (((a && b) && c) && d) (and3 (truth_val (truth_of_bits a b)) (truth_val (truth_of_bits c d)))
and_table false b false d = (refl, λ _. refl)
and_table false b true false = (refl, λ _. refl)
and_table false b true true = (refl, λ _. refl)
and_table true false false d = (refl, λ _. refl)
and_table true true false d = (refl, λ _. refl)
and_table true false true false = (refl, λ _. refl)
and_table true false true true = (refl, λ _. refl)
and_table true true true false = (refl, λ _. refl)
and_table true true true true = (refl, λ e. e)

or_table : (a b c d : Bool)
    → HoldBarely (((a && c) || (a && b)) || (c && d)) ((a && b) || (c && d)) (or3 (truth_val (truth_of_bits a b)) (truth_val (truth_of_bits c d)))
or_table false b false d = (refl, λ _. refl)
or_table false b true false = (refl, λ _. refl)
or_table false b true true = (refl, λ e. e)
or_table true false false d = (refl, λ _. refl)
or_table true true false d = (refl, λ e. e)
or_table true false true false = (refl, λ _. refl)
or_table true false true true = (refl, λ e. e)
or_table true true true false = (refl, λ e. e)
or_table true true true true = (refl, λ e. e)

not_table : (a b : Bool) → HoldBarely a (a && not b) (not3 (truth_val (truth_of_bits a b)))
not_table false b = (refl, λ _. refl)
not_table true false = (refl, λ e. e)
not_table true true = (refl, λ _. refl)

-- ---- the bits at a place of words that were made so
pub and_place : (lv lb rv rb ov ob i : ℕ) → Fits w64 lb → Fits w64 rb → i < 64
    → (ov ≡ and_valid lv lb rv rb) × (ob ≡ and_value lv lb rv rb)
    → HoldBarely (word_bit ov i) (word_bit ob i)
    (and3 (truth_val (truth_of_bits (word_bit lv i) (word_bit lb i))) (truth_val (truth_of_bits (word_bit rv i) (word_bit rb i))))
and_place lv lb rv rb ov ob i p q h (v, w) =
    let valid : word_bit ov i ≡ _ = ap (λ x. word_bit x i) v ∙ and_valid_bit lv lb rv rb i p q h in
    let value : word_bit ob i ≡ _ = ap (λ x. word_bit x i) w ∙ and_value_bit lv lb rv rb i in
    rw (valid, value) (and_table (word_bit lv i) (word_bit lb i) (word_bit rv i) (word_bit rb i))

pub or_place : (lv lb rv rb ov ob i : ℕ) → (ov ≡ or_valid lv lb rv rb) × (ob ≡ or_value lv lb rv rb)
    → HoldBarely (word_bit ov i) (word_bit ob i)
    (or3 (truth_val (truth_of_bits (word_bit lv i) (word_bit lb i))) (truth_val (truth_of_bits (word_bit rv i) (word_bit rb i))))
or_place lv lb rv rb ov ob i (v, w) =
    let valid : word_bit ov i ≡ _ = ap (λ x. word_bit x i) v ∙ or_valid_bit lv lb rv rb i in
    let value : word_bit ob i ≡ _ = ap (λ x. word_bit x i) w ∙ or_value_bit lv lb rv rb i in
    rw (valid, value) (or_table (word_bit lv i) (word_bit lb i) (word_bit rv i) (word_bit rb i))

pub not_place : (v b ov ob i : ℕ) → Fits w64 b → i < 64 → (ov ≡ v) × (ob ≡ not_value v b)
    → HoldBarely (word_bit ov i) (word_bit ob i) (not3 (truth_val (truth_of_bits (word_bit v i) (word_bit b i))))
not_place v b ov ob i p h (e, w) =
    let valid : word_bit ov i ≡ word_bit v i = ap (λ x. word_bit x i) e in
    let value : word_bit ob i ≡ _ = ap (λ x. word_bit x i) w ∙ not_value_bit v b i p h in
    rw (valid, value) (not_table (word_bit v i) (word_bit b i))
