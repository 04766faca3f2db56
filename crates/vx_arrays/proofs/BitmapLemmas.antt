-- Bits of bitmaps, and the bytes that truths make.
use Rattle.std.proofs.Common.{◌≡◌, ℕ, zero, suc, ◌+◌, ◌*◌, ◌/◌, ◌%◌, ◌^◌, ◌<◌, ◌≤◌, List, [], ◌∷◌, get_or, length, take, drop, Bool, true, false, eqb, refl, ◌∙◌, sym, ap, arith, inl, inr}
use Rattle.std.specs.Int.{from_bool}
use Rattle.std.proofs.lemmas.Bool.{cases_lt}
use Rattle.std.proofs.lemmas.List.{get_or_past, get_or-take, get_or-drop, at_drop_more}
use Rattle.std.proofs.lemmas.List.FromFn.{length-map-range_with_len, get_or-map-range_with_len}
use Rattle.std.proofs.lemmas.Nat.Bits.{bit_at_lowest, bit_at-suc}
use Rattle.vx_words.specs.Words.{word_bit}
use Rattle.vx_words.proofs.BitLemmas.{zero_bit}
use Rattle.vx_arrays.specs.Bitmaps.{bytes_for, bit_at, byte_of, byte_at, bitmap_of}

-- no bit is set past the last byte
pub bit_past : (bitmap : List ℕ) (i : ℕ) → length bitmap ≤ i / 8 → bit_at bitmap i ≡ false
bit_past bitmap i h = zero_bit (get_or bitmap (i / 8) 0) (i % 8) (get_or_past bitmap (i / 8) 0 h)

pub from_bool_lt : (b : Bool) → from_bool b < 2
from_bool_lt true = omega arith
from_bool_lt false = omega arith

-- ---- the byte of truths
-- so many truths make a number of so many bits
pub byte_of_lt : (n : ℕ) (flags : List Bool) → length flags ≤ n → byte_of flags < 2 ^ n
byte_of_lt zero [] h = omega arith
byte_of_lt (suc n) [] h = omega (arith, byte_of_lt n [] (omega arith))
byte_of_lt zero (b ∷ flags) h = absurd (omega arith)
byte_of_lt (suc n) (b ∷ flags) h = omega (arith, from_bool_lt b, byte_of_lt n flags (omega arith))

-- one truth more, before the others
pub byte_of_more : (flags : List Bool) (i : ℕ) (b : Bool) → i < length flags → b ≡ get_or flags i b
    → byte_of (drop i flags) ≡ from_bool b + 2 * byte_of (drop (i + 1) flags)
byte_of_more flags i b h e = at_drop_more byte_of flags i b h ∙ ap (λ x. from_bool x + 2 * byte_of (drop (i + 1) flags)) (sym e)

parity : (b : Bool) (n : ℕ) → eqb ((from_bool b + 2 * n) % 2) 1 ≡ b
parity true n = let e : (1 + 2 * n) % 2 ≡ 1 = omega arith in ap (λ x. eqb x 1) e
parity false n = let e : (0 + 2 * n) % 2 ≡ 0 = omega arith in ap (λ x. eqb x 1) e

half : (b : Bool) (n : ℕ) → (from_bool b + 2 * n) / 2 ≡ n
half true n = omega arith
half false n = omega arith

-- each bit is the truth at its place
pub bit_of_byte : (flags : List Bool) (i : ℕ) → word_bit (byte_of flags) i ≡ get_or flags i false
bit_of_byte [] i = zero_bit 0 i refl
bit_of_byte (b ∷ flags) zero = ap (λ x. eqb x 1) (bit_at_lowest (from_bool b + 2 * byte_of flags)) ∙ parity b (byte_of flags)
bit_of_byte (b ∷ flags) (suc i) =
    ap (λ x. eqb x 1) (bit_at-suc (from_bool b + 2 * byte_of flags) i)
    ∙ ap (λ x. word_bit x i) (half b (byte_of flags))
    ∙ bit_of_byte flags i

-- ---- the bitmap of truths
pub length-bitmap_of : (flags : List Bool) → length (bitmap_of flags) ≡ bytes_for (length flags)
length-bitmap_of flags = length-map-range_with_len (byte_at flags) 0 (bytes_for (length flags))

-- the bits of a byte are the truths from eight times its place on
bit_of_byte_at : (flags : List Bool) (k j : ℕ) → j < 8 → word_bit (byte_at flags k) j ≡ get_or flags (8 * k + j) false
bit_of_byte_at flags k j h =
    bit_of_byte (take 8 (drop (8 * k) flags)) j
    ∙ get_or-take 8 (drop (8 * k) flags) j false h
    ∙ get_or-drop (8 * k) flags j false

pub bit_at-bitmap_of : (flags : List Bool) (i : ℕ) → bit_at (bitmap_of flags) i ≡ get_or flags i false
bit_at-bitmap_of flags i =
    let place : 8 * (i / 8) + i % 8 ≡ i = omega arith in
    elim (cases_lt (i / 8) (bytes_for (length flags))) [
      | inl low ↦
          ap (λ x. word_bit x (i % 8)) (get_or-map-range_with_len (byte_at flags) 0 (bytes_for (length flags)) (i / 8) (i / 8) 0 low (omega arith))
          ∙ bit_of_byte_at flags (i / 8) (i % 8) (omega arith)
          ∙ ap (λ k. get_or flags k false) place
      | inr high ↦
          bit_past (bitmap_of flags) i (omega (arith, length-bitmap_of flags))
          ∙ sym (get_or_past flags i false (omega arith))
    ]
