-- Single bits of lists of words.
use Rattle.std.proofs.Common.{◌≡◌, ℕ, ◌+◌, ◌-◌, ◌*◌, ◌/◌, ◌%◌, ◌^◌, ◌<◌, ◌≤◌, List, get_or, length, set, Bool, true, false, not, ◌&&◌, ◌||◌, eqb, nat_lt, refl, ◌∙◌, sym, ap, arith, w64, Fits, inl, inr, eq-eqb}
use Rattle.std.proofs.lemmas.Bool.{cases_lt, cases_eq, lt-ltb, le-ltb, ne_eqb}
use Rattle.std.proofs.lemmas.List.{get_or_past, get_or-set_same, get_or-set_other, get_or-replicate, length-replicate, length-set}
use Rattle.std.proofs.lemmas.Nat.{one_shl}
use Rattle.std.proofs.lemmas.Nat.Bits.{bit_at-zero, bit_at_set_same, bit_at_set_other, bit_at_ones, bit_at_ones_above}
use Rattle.std.specs.Int.{bit_not}
use Rattle.std.specs.Prelude.{bit_and, bit_or, replicate}
use Rattle.vx_words.specs.Words.{word_bit, bit_of}
use Rattle.vx_words.proofs.WordLemmas.{word_bit-and, word_bit-not}

-- no bit of 0 is set
pub zero_bit : (word i : ℕ) → word ≡ 0 → word_bit word i ≡ false
zero_bit word i e = ap (λ x. word_bit x i) e ∙ ap (λ x. eqb x 1) (bit_at-zero i)

-- no bit is set past the end
pub bit_of_past : (ws : List ℕ) (i : ℕ) → 64 * length ws ≤ i → bit_of ws i ≡ false
bit_of_past ws i h = zero_bit (get_or ws (i / 64) 0) (i % 64) (get_or_past ws (i / 64) 0 (omega arith))

-- ---- two bits together
pub and_false : (x : Bool) → (x && false) ≡ false
and_false false = refl
and_false true = refl

pub and_true : (x : Bool) → (x && true) ≡ x
and_true false = refl
and_true true = refl

pub or_false : (x : Bool) → (x || false) ≡ x
or_false false = refl
or_false true = refl

-- the bits that are set in both lists
pub both_bits : (ls rs ws : List ℕ) → length rs ≡ length ls → length ws ≡ length ls
    → ((k : ℕ) → k < length ls → get_or ws k 0 ≡ bit_and (get_or ls k 0) (get_or rs k 0))
    → (i : ℕ) → bit_of ws i ≡ (bit_of ls i && bit_of rs i)
both_bits ls rs ws p q each i =
    elim (cases_lt (i / 64) (length ls)) [
      | inl low ↦ ap (λ x. word_bit x (i % 64)) (each (i / 64) low) ∙ word_bit-and (get_or ls (i / 64) 0) (get_or rs (i / 64) 0) (i % 64)
      | inr high ↦
          bit_of_past ws i (omega arith) ∙ sym (rw (bit_of_past ls i (omega arith)) refl)
    ]

-- the bits that are set in the first list and not in the second
pub bits_without : (ls rs ws : List ℕ) → ((k : ℕ) → Fits w64 (get_or rs k 0)) → length rs ≡ length ls → length ws ≡ length ls
    → ((k : ℕ) → k < length ls → get_or ws k 0 ≡ bit_and (get_or ls k 0) (bit_not w64 (get_or rs k 0)))
    → (i : ℕ) → bit_of ws i ≡ (bit_of ls i && not (bit_of rs i))
bits_without ls rs ws fits p q each i =
    elim (cases_lt (i / 64) (length ls)) [
      | inl low ↦
          ap (λ x. word_bit x (i % 64)) (each (i / 64) low)
          ∙ word_bit-and (get_or ls (i / 64) 0) (bit_not w64 (get_or rs (i / 64) 0)) (i % 64)
          ∙ ap (λ x. bit_of ls i && x) (word_bit-not (get_or rs (i / 64) 0) (i % 64) (fits (i / 64)) (omega arith))
      | inr high ↦
          bit_of_past ws i (omega arith) ∙ sym (rw (bit_of_past ls i (omega arith)) refl)
    ]

-- ---- a bit that is set
-- at the new place, whose bit wasn't set
pub at_new : (n : ℕ) (x y : Bool) → y ≡ false → ((eqb n n && x) || y) ≡ x
at_new n false y e = rw (eq-eqb n n refl, e) refl
at_new n true y e = rw (eq-eqb n n refl) refl

-- at all other places
pub elsewhere : (j n : ℕ) (x y : Bool) → (j ≡ n → ⊥) → ((eqb j n && x) || y) ≡ y
elsewhere j n x y other = rw (ne_eqb j n other) refl

pub bit_of-set : (ws : List ℕ) (i j : ℕ) (bit : Bool) → bit ≡ true → i < 64 * length ws
    → bit_of (set ws (i / 64) (bit_or (get_or ws (i / 64) 0) (1 * 2 ^ (i % 64) % 2 ^ 64))) j ≡ ((eqb j i && bit) || bit_of ws j)
bit_of-set ws i j bit is_set h =
    let new : ℕ = bit_or (get_or ws (i / 64) 0) (1 * 2 ^ (i % 64) % 2 ^ 64) in
    let within : i % 64 < 64 = omega arith in
    elim (cases_eq j i) [
      | inl same ↦
          let made : bit_of (set ws (i / 64) new) j ≡ true =
          ap (bit_of (set ws (i / 64) new)) same
          ∙ ap (λ x. word_bit x (i % 64)) (get_or-set_same ws (i / 64) new 0 (omega arith))
          ∙ ap (λ x. eqb x 1) (bit_at_set_same w64 (get_or ws (i / 64) 0) (i % 64) within) in
          made ∙ sym (rw (eq-eqb j i same, is_set) refl)
      | inr other ↦
          let kept : bit_of (set ws (i / 64) new) j ≡ bit_of ws j =
          elim (cases_eq (j / 64) (i / 64)) [
            | inl word ↦
                ap (λ k. word_bit (get_or (set ws (i / 64) new) k 0) (j % 64)) word
                ∙ ap (λ x. word_bit x (j % 64)) (get_or-set_same ws (i / 64) new 0 (omega arith))
                ∙ ap (λ x. eqb x 1)
                (bit_at_set_other w64 (get_or ws (i / 64) 0) (i % 64) within (j % 64) (λ e. other (omega arith)))
                ∙ ap (λ k. word_bit (get_or ws k 0) (j % 64)) (sym word)
            | inr apart ↦ ap (λ x. word_bit x (j % 64)) (get_or-set_other ws (i / 64) (j / 64) new 0 apart)
          ] in
          kept ∙ sym (rw (ne_eqb j i other) refl)
    ]

-- ---- words of ones
ones_word : (r i : ℕ) → word_bit (2 ^ r - 1) i ≡ nat_lt i r
ones_word r i =
    elim (cases_lt i r) [
      | inl low ↦ ap (λ x. eqb x 1) (bit_at_ones r i low) ∙ sym (lt-ltb i r low)
      | inr high ↦ ap (λ x. eqb x 1) (bit_at_ones_above r i high) ∙ sym (le-ltb i r high)
    ]

full_at : (m k i : ℕ) → k < m → i < 64 → word_bit (get_or (replicate m (2 ^ 64 - 1)) k 0) i ≡ true
full_at m k i h small = ap (λ x. word_bit x i) (get_or-replicate m k (2 ^ 64 - 1) 0 h) ∙ ones_word 64 i ∙ lt-ltb i 64 small

pub bit_of-full : (ws : List ℕ) (m n j : ℕ) → ws ≡ replicate m (2 ^ 64 - 1) → n ≡ m * 64 → bit_of ws j ≡ nat_lt j n
bit_of-full ws m n j e size =
    ap (λ x. bit_of x j) e ∙
    elim (cases_lt j n) [
      | inl low ↦ full_at m (j / 64) (j % 64) (omega arith) (omega arith) ∙ sym (lt-ltb j n low)
      | inr high ↦
          bit_of_past (replicate m (2 ^ 64 - 1)) j (omega (arith, length-replicate m (2 ^ 64 - 1))) ∙ sym (le-ltb j n high)
    ]

pub bit_of-full_less : (ws : List ℕ) (m r n j : ℕ) → ws ≡ set (replicate (m + 1) (2 ^ 64 - 1)) m (1 * 2 ^ r % 2 ^ 64 - 1)
    → n ≡ m * 64 + r → r < 64 → bit_of ws j ≡ nat_lt j n
bit_of-full_less ws m r n j e size small =
    let full : List ℕ = replicate (m + 1) (2 ^ 64 - 1) in
    let all : List ℕ = set full m (2 ^ r - 1) in
    let long : length full ≡ m + 1 = length-replicate (m + 1) (2 ^ 64 - 1) in
    let total : length all ≡ m + 1 = length-set full m (2 ^ r - 1) ∙ long in
    ap (λ x. bit_of x j) (e ∙ ap (λ x. set full m (x - 1)) (one_shl r 64 small)) ∙
    elim (cases_lt (j / 64) m) [
      | inl low ↦
          ap (λ x. word_bit x (j % 64)) (get_or-set_other full m (j / 64) (2 ^ r - 1) 0 (λ e. absurd (omega arith)))
          ∙ full_at (m + 1) (j / 64) (j % 64) (omega arith) (omega arith)
          ∙ sym (lt-ltb j n (omega arith))
      | inr high ↦
          elim (cases_eq (j / 64) m) [
            | inl last ↦
                let here : word_bit (get_or all (j / 64) 0) (j % 64) ≡ nat_lt (j % 64) r =
                ap (λ k. word_bit (get_or all k 0) (j % 64)) last
                ∙ ap (λ x. word_bit x (j % 64)) (get_or-set_same full m (2 ^ r - 1) 0 (omega arith))
                ∙ ones_word r (j % 64) in
                elim (cases_lt (j % 64) r) [
                  | inl under ↦ here ∙ lt-ltb (j % 64) r under ∙ sym (lt-ltb j n (omega arith))
                  | inr over ↦ here ∙ le-ltb (j % 64) r over ∙ sym (le-ltb j n (omega arith))
                ]
            | inr past ↦ bit_of_past all j (omega arith) ∙ sym (le-ltb j n (omega arith))
          ]
    ]
