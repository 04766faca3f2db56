-- A word tells a number exactly where it is the number's decimal digits.
use Rattle.std.proofs.Common.{◌≡◌, refl, ap, sym, ◌∙◌, subst, ℕ, ◌+◌, ◌-◌, ◌*◌, ◌/◌, ◌%◌, ◌^◌, ◌<◌, ◌≤◌, Bool, true, false, cond, not, ◌==◌, nat_le, nat_lt, if◌then◌else◌, Option, Some, None, [], ◌∷◌, ◌++◌, length, get_or, arith, decimal}
use Rattle.std.specs.Char.{digit_value, is_ascii_digit}
use Rattle.std.specs.Int.{IsInRange}
use Rattle.std.specs.List.{list_all}
use Rattle.std.specs.Option.{option_and_then}
use Rattle.std.specs.Str.Parse.{AllDigits, digits_value_after, digits_value}
use Rattle.std.proofs.lemmas.Bool.{and_from, and_parts, eq-eqb, ne_eqb, false≢true, le-leb, leb-true, lt-ltb, ltb-true}
use Rattle.std.proofs.lemmas.Fmt.{decimal_by_steps, decimal-digits_value}
use Rattle.std.proofs.lemmas.List.Folds.{list_all-append}
use Rattle.std.proofs.lemmas.Option.{none-some, same_Some}
use Rattle.std.proofs.lemmas.Str.{digit_value_digit}
use Rattle.std.proofs.lemmas.Str.Parse.{numerals_by_value, tells_digits}
use Rattle.vx_dtype.specs.Types.{Bytes}
use Rattle.vx_tokens.specs.Numbers.{digits_behind, number_value}
use Rattle.vx_laws_shell.specs.Words.{begins_as_number, is_number_word, number_of_word}

-- ---- the digits of a number tell it

-- whether 0 stands first
abbrev begins_with_zero : Bytes → Bool
begins_with_zero [] = false
begins_with_zero (b ∷ bytes) = b == 48

-- what is known of the digits of a number
pub record AreDigits (n : ℕ) (ds : Bytes) : Type 0 where
  pub digits : list_all is_ascii_digit ds ≡ true
  pub number : begins_as_number ds ≡ true
  pub first : 0 < n → begins_with_zero ds ≡ false
  pub value : n < 2 ^ 64 → digits_behind 0 ds ≡ Some n

one_digit : (m n : ℕ) → n < 10 → 10 * m + n < 2 ^ 64 → digits_behind m ((48 + n) ∷ []) ≡ Some (10 * m + n)
unfolding digits_behind
one_digit m n small fits =
    let same : 10 * m + ((48 + n) - 48) ≡ 10 * m + n = omega arith in
    ap (λ (k : ℕ). if nat_lt k (2 ^ 64) then Some k else None) same
    ∙ ap (λ (b : Bool). if b then Some (10 * m + n) else None) (lt-ltb (10 * m + n) (2 ^ 64) fits)

behind_append : (m : ℕ) (ds es : Bytes) → digits_behind m (ds ++ es) ≡ option_and_then (λ (k : ℕ). digits_behind k es) (digits_behind m ds)
unfolding digits_behind
behind_append m [] es = refl
behind_append m (d ∷ ds) es = by-test (nat_lt (10 * m + (d - 48)) (2 ^ 64)) (behind_append (10 * m + (d - 48)) ds es)
  where
    by-test : (b : Bool)
        → digits_behind (10 * m + (d - 48)) (ds ++ es) ≡ option_and_then (λ (k : ℕ). digits_behind k es) (digits_behind (10 * m + (d - 48)) ds)
        → (if b then digits_behind (10 * m + (d - 48)) (ds ++ es) else None)
        ≡ option_and_then (λ (k : ℕ). digits_behind k es) (if b then digits_behind (10 * m + (d - 48)) ds else None)
    by-test true h = h
    by-test false h = refl

digit_is : (n : ℕ) → n < 10 → is_ascii_digit (48 + n) ≡ true
digit_is n small = and_from (nat_le 48 (48 + n)) (nat_le (48 + n) 57) (le-leb 48 (48 + n) (omega arith)) (le-leb (48 + n) 57 (omega (arith, small)))

above_zero : (n : ℕ) → 0 < n → ((48 + n) == 48) ≡ false
above_zero n h = ne_eqb (48 + n) 48 (λ e. omega arith)

one_step : (n : ℕ) → n < 10 → AreDigits n ((48 + n) ∷ [])
one_step n small = record {
  digits = and_from (is_ascii_digit (48 + n)) true (digit_is n small) refl;
  number = refl;
  first = λ h. above_zero n h;
  value = λ fits. let same : 10 * 0 + n ≡ n = omega arith in one_digit 0 n small (omega arith) ∙ ap Some same;
}

longer : (b : ℕ) (ds : Bytes) (x : ℕ) → (b == 48) ≡ false → begins_as_number (b ∷ (ds ++ x ∷ [])) ≡ true
longer b [] x e = ap not e
longer b (c ∷ ds) x e = ap not e

number_more : (n : ℕ) (ds : Bytes) (x : ℕ) → 0 < n → AreDigits n ds → begins_as_number (ds ++ x ∷ []) ≡ true
number_more n [] x some k = absurd (false≢true k.number)
number_more n (b ∷ ds) x some k = longer b ds x (k.first some)

first_more : (n : ℕ) (ds : Bytes) (x : ℕ) → 0 < n → AreDigits n ds → begins_with_zero (ds ++ x ∷ []) ≡ false
first_more n [] x some k = absurd (false≢true k.number)
first_more n (b ∷ ds) x some k = k.first some

digits_more : (ds : Bytes) (n : ℕ) → n < 10 → list_all is_ascii_digit ds ≡ true → list_all is_ascii_digit (ds ++ (48 + n) ∷ []) ≡ true
digits_more ds n small h =
    list_all-append is_ascii_digit ds ((48 + n) ∷ [])
    ∙ and_from (list_all is_ascii_digit ds) (list_all is_ascii_digit ((48 + n) ∷ [])) h (and_from (is_ascii_digit (48 + n)) true (digit_is n small) refl)

value_more : (n : ℕ) (ds : Bytes) → n < 2 ^ 64 → digits_behind 0 ds ≡ Some (n / 10) → digits_behind 0 (ds ++ (48 + n % 10) ∷ []) ≡ Some n
value_more n ds fits h =
    let small : n % 10 < 10 = omega arith in
    let same : 10 * (n / 10) + n % 10 ≡ n = omega arith in
    let within : 10 * (n / 10) + n % 10 < 2 ^ 64 = omega arith in
    behind_append 0 ds ((48 + n % 10) ∷ [])
    ∙ ap (λ (o : Option ℕ). option_and_then (λ (k : ℕ). digits_behind k ((48 + n % 10) ∷ [])) o) h
    ∙ one_digit (n / 10) (n % 10) small within ∙ ap Some same

more_steps : (n : ℕ) (ds : Bytes) → 10 ≤ n → AreDigits (n / 10) ds → AreDigits n (ds ++ (48 + n % 10) ∷ [])
more_steps n ds big k =
    let some : 0 < n / 10 = omega arith in
    record {
      digits = digits_more ds (n % 10) (omega arith) k.digits;
      number = number_more (n / 10) ds (48 + n % 10) some k;
      first = λ h. first_more (n / 10) ds (48 + n % 10) some k;
      value = λ fits. value_more n ds fits (k.value (omega arith));
    }

pub are_digits : (n : ℕ) → n < 2 ^ 64 → AreDigits n (decimal n)
are_digits n fits = decimal_by_steps AreDigits one_step more_steps n fits

pub number_again : (n : ℕ) → n < 2 ^ 64 → number_of_word (decimal n) ≡ Some n
number_again n fits =
    let k = are_digits n fits in
    ap (λ (b : Bool). cond b (number_value (decimal n)) None)
    (and_from (begins_as_number (decimal n)) (list_all is_ascii_digit (decimal n)) k.number k.digits)
    ∙ k.value fits

-- ---- a word that tells a number is its digits

pub digit_range : (d : ℕ) → is_ascii_digit d ≡ true → IsInRange 48 57 d
digit_range d e = let k = and_parts (nat_le 48 d) (nat_le d 57) e in (leb-true 48 d k.0, leb-true d 57 k.1)

all_digits : (ds : Bytes) → list_all is_ascii_digit ds ≡ true → AllDigits 10 ds
all_digits [] e = tt
all_digits (d ∷ ds) e =
    let k = and_parts (is_ascii_digit d) (list_all is_ascii_digit ds) e in
    let range = digit_range d k.0 in
    (omega (arith, digit_value_digit d range, range.1), all_digits ds k.1)

value_said : (k n : ℕ) (ds : Bytes) → list_all is_ascii_digit ds ≡ true → k < 2 ^ 64 → digits_behind k ds ≡ Some n
    → (digits_value_after 10 k ds ≡ n) × (n < 2 ^ 64)
unfolding digits_behind
value_said k n [] e small h = let same = same_Some k n h in (same, subst (λ (m : ℕ). m < 2 ^ 64) same small)
value_said k n (d ∷ ds) e small h = by-test (nat_lt (10 * k + (d - 48)) (2 ^ 64)) refl h (value_said (10 * k + (d - 48)) n ds parts.1)
  where
    parts : (is_ascii_digit d ≡ true) × (list_all is_ascii_digit ds ≡ true)
    parts = and_parts (is_ascii_digit d) (list_all is_ascii_digit ds) e

    by-test : (b : Bool) → nat_lt (10 * k + (d - 48)) (2 ^ 64) ≡ b → (if b then digits_behind (10 * k + (d - 48)) ds else None) ≡ Some n
        → (10 * k + (d - 48) < 2 ^ 64 → digits_behind (10 * k + (d - 48)) ds ≡ Some n
        → (digits_value_after 10 (10 * k + (d - 48)) ds ≡ n) × (n < 2 ^ 64))
        → (digits_value_after 10 (k * 10 + digit_value d) ds ≡ n) × (n < 2 ^ 64)
    by-test true t g rest =
        let range = digit_range d parts.0 in
        let same : k * 10 + digit_value d ≡ 10 * k + (d - 48) = omega (arith, digit_value_digit d range, range.0) in
        let own = rest (ltb-true (10 * k + (d - 48)) (2 ^ 64) t) g in
        (ap (λ (m : ℕ). digits_value_after 10 m ds) same ∙ own.0, own.1)
    by-test false t g rest = absurd (none-some n g)

passed : {A : Type 0} (b : Bool) (o : Option A) (y : A) → cond b o None ≡ Some y → (b ≡ true) × (o ≡ Some y)
passed true o y e = (refl, e)
passed false o y e = absurd (none-some y e)

some_digit : (word : Bytes) → begins_as_number word ≡ true → 0 < length word
some_digit [] e = absurd (false≢true e)
some_digit (b ∷ bytes) e = omega arith

one_zero : (word : Bytes) → begins_as_number word ≡ true → get_or word 0 0 ≡ 48 → length word ≡ 1
one_zero [] e z = absurd (false≢true e)
one_zero (b ∷ []) e z = refl
one_zero (b ∷ c ∷ bytes) e z = absurd (false≢true (sym (ap not (eq-eqb b 48 z)) ∙ e))

pub number_said : (word : Bytes) (n : ℕ) → number_of_word word ≡ Some n → (word ≡ decimal n) × (n < 2 ^ 64)
number_said word n e =
    let test = passed (is_number_word word) (number_value word) n e in
    let form = and_parts (begins_as_number word) (list_all is_ascii_digit word) test.0 in
    let value = value_said 0 n word form.1 (omega arith) test.1 in
    let same : digits_value 10 word ≡ n = value.0 in
    let digits = decimal-digits_value (numerals_by_value (AllDigits 10) tells_digits) word (all_digits word form.1) (some_digit word form.0) (one_zero word form.0)
    (subst (λ (m : ℕ). m < 2 ^ 64) (sym same) value.1) in
    (sym digits ∙ ap decimal same, value.1)
