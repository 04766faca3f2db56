-- The words that tell a number.
use Rattle.std.proofs.Common.{◌≡◌, ◌∙◌, sym, ap, refl, subst, ℕ, ◌+◌, ◌-◌, ◌*◌, ◌^◌, ◌<◌, ◌≤◌, ◌==◌, nat_le, get_or, length, Bool, true, false, cond, not, ◌&&◌, [], ◌∷◌, Some, None, decimal, ⊎_elim, eq-eqb, arith, rules}
use Rattle.std.proofs.lemmas.Bool.{and_parts, and_from, le-leb, leb-true, ne_eqb, cases_eq}
use Rattle.std.proofs.lemmas.Option.{same_Some}
use Rattle.std.proofs.lemmas.Fmt.{decimal_digit, decimal_nonempty, first_decimal, digits_decimal, digits_value-decimal, decimal-digits_value}
use Rattle.std.proofs.lemmas.Str.Parse.{IsNumeralModel, numerals_by_fold}
use Rattle.vx_dtype.specs.Types.{Bytes}
use Rattle.vx_query.specs.NumberWords.{is_digit, number_behind, begins_as_number, number_of_word, WordsTellNumbers}
use Rattle.vx_query.specs.GeneratedWords.{most_rows, WordsTellRows}
use Rattle.vx_query.specs.TopWords.{most_count, WordsTellCounts}

-- whether each byte is a digit, and the number that digits tell behind another one
abbrev are_digits : Bytes → Bool
are_digits [] = true
are_digits (b ∷ bytes) = is_digit b && are_digits bytes

abbrev value_behind : ℕ → Bytes → ℕ
value_behind n [] = n
value_behind n (b ∷ bytes) = value_behind (10 * n + (b - 48)) bytes

own : IsNumeralModel (λ bytes. are_digits bytes ≡ true) (value_behind 0)
own = numerals_by_fold _ (search rules) value_behind (search rules)

-- what is told behind a number
record Tells (most n : ℕ) (bytes : Bytes) (rows : ℕ) : Type 0 where
  digits : are_digits bytes ≡ true
  number : value_behind n bytes ≡ rows
  few : rows ≤ most

tells-behind : (most n : ℕ) (bytes : Bytes) (rows : ℕ) → n ≤ most → number_behind most n bytes ≡ Some rows → Tells most n bytes rows
tells-behind most n [] rows few h =
    let same : n ≡ rows = same_Some n rows h in
    record { digits = refl; number = same; few = subst (λ (k : ℕ). k ≤ most) same few }
tells-behind most n (b ∷ bytes) rows few h =
    by (is_digit b && nat_le (10 * n + (b - 48)) most) refl h (tells-behind most (10 * n + (b - 48)) bytes rows)
  where
    by : (t : Bool) → (is_digit b && nat_le (10 * n + (b - 48)) most) ≡ t → cond t (number_behind most (10 * n + (b - 48)) bytes) None ≡ Some rows
        → (10 * n + (b - 48) ≤ most → number_behind most (10 * n + (b - 48)) bytes ≡ Some rows → Tells most (10 * n + (b - 48)) bytes rows)
        → Tells most n (b ∷ bytes) rows
    by true e k rest =
        let parts = and_parts (is_digit b) (nat_le (10 * n + (b - 48)) most) e in
        let told = rest (leb-true (10 * n + (b - 48)) most parts.1) k in
        record { digits = and_from (is_digit b) (are_digits bytes) parts.0 told.digits; number = told.number; few = told.few }
    by false e k rest = let no : ⊥ = cc in absurd no

-- a number grows with its digits
grows : (n : ℕ) (bytes : Bytes) → n ≤ value_behind n bytes
grows n [] = omega arith
grows n (b ∷ bytes) = let more = grows (10 * n + (b - 48)) bytes in omega arith

told-behind : (most n : ℕ) (bytes : Bytes) → are_digits bytes ≡ true → value_behind n bytes ≤ most → number_behind most n bytes ≡ Some (value_behind n bytes)
told-behind most n [] digits few = refl
told-behind most n (b ∷ bytes) digits few =
    let parts = and_parts (is_digit b) (are_digits bytes) digits in
    let more = grows (10 * n + (b - 48)) bytes in
    let small : 10 * n + (b - 48) ≤ most = omega arith in
    ap (λ (t : Bool). cond t (number_behind most (10 * n + (b - 48)) bytes) None)
    (and_from (is_digit b) (nat_le (10 * n + (b - 48)) most) parts.0 (le-leb (10 * n + (b - 48)) most small))
    ∙ told-behind most (10 * n + (b - 48)) bytes parts.1 few

-- ---- how a number begins

begins-nonempty : (bytes : Bytes) → begins_as_number bytes ≡ true → 0 < length bytes
begins-nonempty [] h = let no : ⊥ = cc in absurd no
begins-nonempty (b ∷ bytes) h = omega arith

begins-alone : (bytes : Bytes) → begins_as_number bytes ≡ true → get_or bytes 0 0 ≡ 48 → length bytes ≡ 1
begins-alone [] h e = let no : ⊥ = cc in absurd no
begins-alone (b ∷ []) h e = refl
begins-alone (b ∷ c ∷ bytes) h e = absurd (by (b == 48) (eq-eqb b 48 e) h)
  where
    by : (t : Bool) → t ≡ true → not t ≡ true → ⊥
    by true k j = cc
    by false k j = cc

begins-so : (bytes : Bytes) → 0 < length bytes → 48 < get_or bytes 0 0 → begins_as_number bytes ≡ true
begins-so [] h k = absurd (omega (arith, h))
begins-so (b ∷ []) h k = refl
begins-so (b ∷ c ∷ bytes) h k = ap not (ne_eqb b 48 (λ e. omega arith))

decimal-begins : (most rows : ℕ) → most < 2 ^ 64 → rows ≤ most → begins_as_number (decimal rows) ≡ true
decimal-begins most rows bound few =
    ⊎_elim
    (λ (e : rows ≡ 0). ap begins_as_number (ap decimal e ∙ decimal_digit 0 (omega arith)))
    (λ (e : rows ≡ 0 → ⊥).
    let some : 0 < rows = omega arith in
    let fits : rows < 2 ^ 64 = omega (arith, few, bound) in
    begins-so (decimal rows) (decimal_nonempty rows fits) (first_decimal rows some fits))
    (cases_eq rows 0)

-- ---- both ways

told-so : (most : ℕ) → most < 2 ^ 64 → (word : Bytes) (rows : ℕ) → number_of_word most word ≡ Some rows → (word ≡ decimal rows) × (rows ≤ most)
told-so most bound word rows h = by (begins_as_number word) refl h
  where
    by : (t : Bool) → begins_as_number word ≡ t → cond t (number_behind most 0 word) None ≡ Some rows → (word ≡ decimal rows) × (rows ≤ most)
    by true e k =
        let told = tells-behind most 0 word rows (omega arith) k in
        let small : value_behind 0 word < 2 ^ 64 = omega (arith, told.number, told.few, bound) in
        (sym (decimal-digits_value own word told.digits (begins-nonempty word e) (begins-alone word e) small) ∙ ap decimal told.number, told.few)
    by false e k = let no : ⊥ = cc in absurd no

tells-so : (most : ℕ) → most < 2 ^ 64 → (word : Bytes) (rows : ℕ) → (word ≡ decimal rows) × (rows ≤ most) → number_of_word most word ≡ Some rows
tells-so most bound word rows h =
    let fits : rows < 2 ^ 64 = omega (arith, h.1, bound) in
    let value : value_behind 0 (decimal rows) ≡ rows = digits_value-decimal own rows fits in
    ap (number_of_word most) h.0
    ∙ ap (λ (t : Bool). cond t (number_behind most 0 (decimal rows)) None) (decimal-begins most rows bound h.1)
    ∙ told-behind most 0 (decimal rows) (digits_decimal own rows fits) (omega (arith, value, h.1))
    ∙ ap Some value

words_tell : (most : ℕ) → most < 2 ^ 64 → WordsTellNumbers most
words_tell most bound word number = (told-so most bound word number, tells-so most bound word number)

pub words_tell_rows : WordsTellRows
words_tell_rows = words_tell most_rows (omega arith)

pub words_tell_counts : WordsTellCounts
words_tell_counts = words_tell most_count (omega arith)
