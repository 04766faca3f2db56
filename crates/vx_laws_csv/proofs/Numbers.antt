-- The whole number that a cell is has the cell as its decimal text, and is read of it.
use Rattle.std.proofs.Common.{◌≡◌, ◌∙◌, refl, sym, ap, subst, ℕ, zero, suc, ◌+◌, ◌-◌, ◌*◌, ◌/◌, ◌%◌, ◌^◌, ◌<◌, ◌≤◌, nat_lt, ◌==◌, Bool, true, false, cond, not, ℤ, pos, negsuc, [], ◌∷◌, ◌++◌, append_assoc, append-nil, Option, Some, None, option_map, if◌then◌else◌, decimal, inl, inr, arith, ltb-true, eqb-true, ne_eqb}
use Rattle.std.specs.Fmt.{signed_decimal}
use Rattle.std.specs.List.{list_all}
use Rattle.std.proofs.lemmas.Bool.{and_parts, and_from, not-true, eqb-false, cases_lt}
use Rattle.std.proofs.lemmas.Fmt.{decimal_digit, decimal_step}
use Rattle.std.proofs.lemmas.Option.{same_Some}
use Rattle.vx_dtype.specs.Types.{Bytes}
use Rattle.vx_tokens.specs.Tokens.{is_digit, is_number}
use Rattle.vx_tokens.specs.Numbers.{digits_behind, number_value, signed}
use Rattle.vx_laws_text.proofs.Decimals.{AreDigits, are_digits}
use Rattle.vx_laws_csv.specs.Cells.{is_written_number, written_number, negative_number, whole_number}
use Rattle.vx_laws_csv.specs.CsvLaws.{IsOf64Bits, NumbersAreTheirTexts, OtherSpellings}

-- the number's decimal text is this one, and the number is one of 64 bits
record IsTextOf (n : ℕ) (s : Bytes) : Type 0 where
  text : decimal n ≡ s
  within : n < 2 ^ 64

record IsDigit (d : ℕ) : Type 0 where
  from : 48 ≤ d
  up_to : d < 58

digit-is : (d : ℕ) → is_digit d ≡ true → IsDigit d
digit-is d h =
    let parts = and_parts (nat_lt 47 d) (nat_lt d 58) h in
    let low = ltb-true 47 d parts.0 in
    record { from = omega (arith, low); up_to = ltb-true d 58 parts.1 }

-- one digit more
next-decimal : (m d : ℕ) → 0 < m → d < 10 → 10 * m + d < 2 ^ 64 → decimal (10 * m + d) ≡ decimal m ++ (48 + d) ∷ []
next-decimal m d some small fits =
    let front : (10 * m + d) / 10 ≡ m = omega arith in
    let last : (10 * m + d) % 10 ≡ d = omega arith in
    decimal_step (10 * m + d) (omega arith) fits ∙ (λ j. decimal (front j) ++ (48 + last j) ∷ [])

one-more : (m n d : ℕ) (ds : Bytes) → 0 < m → is_digit d ≡ true → (b : Bool) → nat_lt (10 * m + (d - 48)) (2 ^ 64) ≡ b
    → (if b then digits_behind (10 * m + (d - 48)) ds else None) ≡ Some n
    → (0 < 10 * m + (d - 48) → 10 * m + (d - 48) < 2 ^ 64 → digits_behind (10 * m + (d - 48)) ds ≡ Some n → IsTextOf n (decimal (10 * m + (d - 48)) ++ ds))
    → IsTextOf n (decimal m ++ d ∷ ds)
one-more m n d ds some digit true lt e rest =
    let low = (digit-is d digit).from in
    let high = (digit-is d digit).up_to in
    let fits = ltb-true (10 * m + (d - 48)) (2 ^ 64) lt in
    let own = rest (omega (arith, some)) fits e in
    let again : 48 + (d - 48) ≡ d = omega (arith, low) in
    let here : decimal (10 * m + (d - 48)) ≡ decimal m ++ d ∷ [] = next-decimal m (d - 48) some (omega (arith, high)) fits ∙ ap (λ (k : ℕ). decimal m ++ k ∷ []) again in
    record { text = own.text ∙ ap (λ (s : Bytes). s ++ ds) here ∙ append_assoc (decimal m) (d ∷ []) ds; within = own.within }
one-more m n d ds some digit false lt e rest = absurd cc

-- digits behind a number that isn't 0 end the text of the number that they say
behind : (m n : ℕ) (ds : Bytes) → 0 < m → m < 2 ^ 64 → list_all is_digit ds ≡ true → digits_behind m ds ≡ Some n → IsTextOf n (decimal m ++ ds)
unfolding digits_behind
behind m n [] some fits h e =
    let same = same_Some m n e in
    record { text = ap decimal (sym same) ∙ sym (append-nil (decimal m)); within = subst (λ (k : ℕ). k < 2 ^ 64) same fits }
behind m n (d ∷ ds) some fits h e =
    one-more m n d ds some (and_parts (is_digit d) (list_all is_digit ds) h).0 (nat_lt (10 * m + (d - 48)) (2 ^ 64)) refl e
    (λ p q f. behind (10 * m + (d - 48)) n ds p q (and_parts (is_digit d) (list_all is_digit ds) h).1 f)

-- the first digit
one-digit : (n d : ℕ) → is_digit d ≡ true → (b : Bool) → (if b then Some (10 * 0 + (d - 48)) else None) ≡ Some n → IsTextOf n (d ∷ [])
one-digit n d digit true e =
    let low = (digit-is d digit).from in
    let high = (digit-is d digit).up_to in
    let said : 10 * 0 + (d - 48) ≡ n = same_Some (10 * 0 + (d - 48)) n e in
    let same : n ≡ d - 48 = omega (arith, said) in
    let again : 48 + (d - 48) ≡ d = omega (arith, low) in
    record {
      text = ap decimal same ∙ decimal_digit (d - 48) (omega (arith, high)) ∙ ap (λ (k : ℕ). k ∷ []) again;
      within = omega (arith, same, high);
    }
one-digit n d digit false e = absurd cc

apart : (d : ℕ) → not (d == 48) ≡ true → 48 ≤ d → 48 < d
apart d other low = elim (cases_lt 48 d) [
  | inl lt ↦ lt
  | inr le ↦ let same : d ≡ 48 = omega (arith, le, low) in absurd (eqb-false d 48 (not-true (d == 48) other) same)
]

many-digits : (n d : ℕ) (ds : Bytes) → not (d == 48) ≡ true → is_digit d ≡ true → list_all is_digit ds ≡ true → (b : Bool)
    → (if b then digits_behind (10 * 0 + (d - 48)) ds else None) ≡ Some n → IsTextOf n (d ∷ ds)
many-digits n d ds other digit digits true e =
    let low = (digit-is d digit).from in
    let high = (digit-is d digit).up_to in
    let above = apart d other low in
    let some : 0 < 10 * 0 + (d - 48) = omega (arith, above) in
    let small : 10 * 0 + (d - 48) < 10 = omega (arith, high) in
    let again : 48 + (10 * 0 + (d - 48)) ≡ d = omega (arith, low) in
    let own = behind (10 * 0 + (d - 48)) n ds some (omega (arith, small)) digits e in
    let first : decimal (10 * 0 + (d - 48)) ≡ d ∷ [] = decimal_digit (10 * 0 + (d - 48)) small ∙ ap (λ (k : ℕ). k ∷ []) again in
    record { text = own.text ∙ ap (λ (s : Bytes). s ++ ds) first; within = own.within }
many-digits n d ds other digit digits false e = absurd cc

-- digits as they are written are the text of the number that they say
written : (n : ℕ) (ds : Bytes) → is_written_number ds ≡ true → number_value ds ≡ Some n → IsTextOf n ds
unfolding digits_behind
written n [] h e = absurd cc
written n (d ∷ []) h e =
    let digits = (and_parts (is_number (d ∷ [])) (list_all is_digit (d ∷ [])) h).1 in
    one-digit n d (and_parts (is_digit d) true digits).0 (nat_lt (10 * 0 + (d - 48)) (2 ^ 64)) e
written n (d ∷ c ∷ ds) h e =
    let parts = and_parts (is_number (d ∷ c ∷ ds)) (list_all is_digit (d ∷ c ∷ ds)) h in
    let digits = and_parts (is_digit d) (list_all is_digit (c ∷ ds)) parts.1 in
    many-digits n d (c ∷ ds) parts.0 digits.0 digits.1 (nat_lt (10 * 0 + (d - 48)) (2 ^ 64)) e

-- ---- what a number's cell is

record IsCellOf (i : ℤ) (s : Bytes) : Type 0 where
  text : s ≡ signed_decimal i
  within : IsOf64Bits i

above : (s : Bytes) (i : ℤ) (w : Bool) (v : Option ℕ) → is_written_number s ≡ w → number_value s ≡ v → cond w (option_map (signed false) v) None ≡ Some i → IsCellOf i s
above s i true (Some n) is v e =
    let own = written n s is v in
    let same : pos n ≡ i = same_Some (pos n) i e in
    record { text = sym own.text ∙ ap signed_decimal same; within = subst IsOf64Bits same own.within }
above s i true None is v e = absurd cc
above s i false v is w e = absurd cc

below : (d : ℕ) (ds : Bytes) (i : ℤ) (w : Bool) (v : Option ℕ) → (d == 48) ≡ false → is_written_number (d ∷ ds) ≡ w → number_value (d ∷ ds) ≡ v
    → cond w (option_map (signed true) v) None ≡ Some i → IsCellOf i (45 ∷ d ∷ ds)
below d ds i true (Some zero) other is v e =
    let own = written zero (d ∷ ds) is v in
    let joined : 48 ∷ [] ≡ d ∷ ds = sym (decimal_digit 0 (omega arith)) ∙ own.text in
    let first : 48 ≡ d = cc in
    absurd (eqb-false d 48 other (sym first))
below d ds i true (Some (suc n)) other is v e =
    let own = written (suc n) (d ∷ ds) is v in
    let same : negsuc n ≡ i = same_Some (negsuc n) i e in
    record { text = ap (λ (s : Bytes). 45 ∷ s) (sym own.text) ∙ ap signed_decimal same; within = subst IsOf64Bits same own.within }
below d ds i true None other is v e = absurd cc
below d ds i false v other is w e = absurd cc

by-zero : (d : ℕ) (ds : Bytes) (i : ℤ) (b : Bool) → (d == 48) ≡ b → cond b None (written_number true (d ∷ ds)) ≡ Some i → IsCellOf i (45 ∷ d ∷ ds)
by-zero d ds i true is e = absurd cc
by-zero d ds i false is e = below d ds i (is_written_number (d ∷ ds)) (number_value (d ∷ ds)) is refl refl e

negative : (bytes : Bytes) (i : ℤ) → negative_number bytes ≡ Some i → IsCellOf i (45 ∷ bytes)
negative [] i e = absurd cc
negative (d ∷ ds) i e = by-zero d ds i (d == 48) refl e

by-minus : (b : ℕ) (bytes : Bytes) (i : ℤ) (m : Bool) → (b == 45) ≡ m → cond m (negative_number bytes) (written_number false (b ∷ bytes)) ≡ Some i → IsCellOf i (b ∷ bytes)
by-minus b bytes i true is e = subst (λ (k : ℕ). IsCellOf i (k ∷ bytes)) (sym (eqb-true b 45 is)) (negative bytes i e)
by-minus b bytes i false is e = above (b ∷ bytes) i (is_written_number (b ∷ bytes)) (number_value (b ∷ bytes)) refl refl e

cell-of : (s : Bytes) (i : ℤ) → whole_number s ≡ Some i → IsCellOf i s
cell-of [] i e = absurd cc
cell-of (b ∷ bytes) i e = by-minus b bytes i (b == 45) refl e

-- ---- and back

is-written : (n : ℕ) (ds : Bytes) (negative : Bool) → AreDigits n ds → n < 2 ^ 64 → written_number negative ds ≡ Some (signed negative n)
is-written n ds negative k fits =
    ap (λ (w : Bool). cond w (option_map (signed negative) (number_value ds)) None) (and_from (is_number ds) (list_all is_digit ds) k.number k.digits)
    ∙ ap (option_map (signed negative)) (k.value fits)

no-minus : (d : ℕ) → IsDigit d → (d == 45) ≡ false
no-minus d is = let low = is.from in ne_eqb d 45 (λ e. absurd (omega (arith, e, low)))

read-above : (n : ℕ) (ds : Bytes) → AreDigits n ds → n < 2 ^ 64 → whole_number ds ≡ Some (pos n)
read-above n [] k fits = let no = k.number in absurd cc
read-above n (d ∷ ds) k fits =
    let digit = digit-is d (and_parts (is_digit d) (list_all is_digit ds) k.digits).0 in
    ap (λ (b : Bool). cond b (negative_number ds) (written_number false (d ∷ ds))) (no-minus d digit) ∙ is-written n (d ∷ ds) false k fits

read-below : (n : ℕ) (ds : Bytes) → AreDigits (suc n) ds → suc n < 2 ^ 64 → whole_number (45 ∷ ds) ≡ Some (negsuc n)
read-below n [] k fits = let no = k.number in absurd cc
read-below n (d ∷ ds) k fits =
    let other : (d == 48) ≡ false = k.first (omega arith) in
    ap (λ (b : Bool). cond b None (written_number true (d ∷ ds))) other ∙ is-written (suc n) (d ∷ ds) true k fits

read-again : (s : Bytes) (i : ℤ) → IsCellOf i s → whole_number s ≡ Some i
read-again s (pos n) is = ap whole_number is.text ∙ read-above n (decimal n) (are_digits n is.within) is.within
read-again s (negsuc n) is = ap whole_number is.text ∙ read-below n (decimal (suc n)) (are_digits (suc n) is.within) is.within

pub numbers_are_their_texts : NumbersAreTheirTexts
numbers_are_their_texts s i =
    (λ e. let is = cell-of s i e in (is.text, is.within), λ h. read-again s i (record { text = h.0; within = h.1 }))

plus-before : (s : Bytes) → whole_number (43 ∷ s) ≡ None
plus-before [] = refl
plus-before (b ∷ s) = refl

pub other_spellings : OtherSpellings
other_spellings = record { zero_before = λ b s. refl; plus_before = plus-before; minus_before_zero = λ s. refl }
