-- The decimal digits of a number, and that they are read as the number.
use Rattle.std.proofs.Common.{◌≡◌, ℕ, ◌+◌, ◌-◌, ◌*◌, ◌/◌, ◌%◌, ◌^◌, ◌<◌, ◌≤◌, Bool, true, false, [], ◌∷◌, ◌++◌, refl, ap, ◌∙◌, Option, Some, None, arith, ◌==◌}
use Rattle.std.specs.Prelude.{nat_lt, if◌then◌else◌, decimal}
use Rattle.std.specs.List.{list_all}
use Rattle.std.proofs.lemmas.Fmt.{decimal_by_steps}
use Rattle.std.proofs.lemmas.List.Folds.{list_all-append}
use Rattle.std.proofs.lemmas.Bool.Decides.{nat_tests}
use Rattle.vx_dtype.specs.Types.{Bytes}
use Rattle.vx_tokens.specs.Tokens.{◌>>=◌, is_digit, is_number}
use Rattle.vx_tokens.specs.Numbers.{digits_behind}
use Rattle.vx_laws_text.proofs.Cutting.{begins}
use Rattle.vx_laws_text.proofs.Pieces.{if-true}

-- what is known of the digits of a number
pub record AreDigits (n : ℕ) (ds : Bytes) : Type 0 where
  pub digits : list_all is_digit ds ≡ true
  pub number : is_number ds ≡ true
  pub first : 0 < n → begins (λ b. b == 48) ds ≡ false
  pub value : n < 2 ^ 64 → digits_behind 0 ds ≡ Some n

one_digit : (m n : ℕ) → n < 10 → 10 * m + n < 2 ^ 64 → digits_behind m ((48 + n) ∷ []) ≡ Some (10 * m + n)
unfolding digits_behind
one_digit m n small fits =
    let e : 10 * m + ((48 + n) - 48) ≡ 10 * m + n = omega arith in
    let lt : nat_lt (10 * m + n) (2 ^ 64) ≡ true = grind (arith, nat_tests) in
    rw e (if-true (nat_lt (10 * m + n) (2 ^ 64)) _ _ lt)

behind_append : (m : ℕ) (ds es : Bytes) → digits_behind m (ds ++ es) ≡ (digits_behind m ds >>= λ k. digits_behind k es)
unfolding digits_behind
behind_append m [] es = refl
behind_append m (d ∷ ds) es = go (nat_lt (10 * m + (d - 48)) (2 ^ 64)) (behind_append (10 * m + (d - 48)) ds es)
  where
    go : (t : Bool) → digits_behind (10 * m + (d - 48)) (ds ++ es) ≡ (digits_behind (10 * m + (d - 48)) ds >>= λ k. digits_behind k es)
        → (if t then digits_behind (10 * m + (d - 48)) (ds ++ es) else None) ≡ ((if t then digits_behind (10 * m + (d - 48)) ds else None) >>= λ k. digits_behind k es)
    go true h = h
    go false h = refl

digit_is : (n : ℕ) → n < 10 → is_digit (48 + n) ≡ true
digit_is n small = grind (arith, nat_tests)

above_zero : (n : ℕ) → 0 < n → ((48 + n) == 48) ≡ false
above_zero n h = grind (arith, nat_tests)

one_step : (n : ℕ) → n < 10 → AreDigits n ((48 + n) ∷ [])
one_step n small = record {
  digits = rw (digit_is n small) refl;
  number = refl;
  first = λ h. above_zero n h;
  value = λ fits. one_digit 0 n small (omega arith) ∙ ap Some (omega arith);
}

longer : (b : ℕ) (s : Bytes) (x : ℕ) → (b == 48) ≡ false → is_number (b ∷ (s ++ x ∷ [])) ≡ true
longer b [] x e = rw e refl
longer b (c ∷ s) x e = rw e refl

number_more : (n : ℕ) (ds : Bytes) (x : ℕ) → 0 < n → AreDigits n ds → is_number (ds ++ x ∷ []) ≡ true
number_more n [] x pos k = let no = k.number in absurd cc
number_more n (b ∷ s) x pos k = longer b s x (k.first pos)

first_more : (n : ℕ) (ds : Bytes) (x : ℕ) → 0 < n → AreDigits n ds → begins (λ b. b == 48) (ds ++ x ∷ []) ≡ false
first_more n [] x pos k = let no = k.number in absurd cc
first_more n (b ∷ s) x pos k = k.first pos

digits_more : (ds : Bytes) (n : ℕ) → n < 10 → list_all is_digit ds ≡ true → list_all is_digit (ds ++ (48 + n) ∷ []) ≡ true
digits_more ds n small h = list_all-append is_digit ds ((48 + n) ∷ []) ∙ rw (h, digit_is n small) refl

value_more : (n : ℕ) (ds : Bytes) → n < 2 ^ 64 → digits_behind 0 ds ≡ Some (n / 10) → digits_behind 0 (ds ++ (48 + n % 10) ∷ []) ≡ Some n
value_more n ds fits h =
    let small : n % 10 < 10 = omega arith in
    let same : 10 * (n / 10) + n % 10 ≡ n = omega arith in
    let within : 10 * (n / 10) + n % 10 < 2 ^ 64 = omega arith in
    behind_append 0 ds ((48 + n % 10) ∷ []) ∙ (ap (λ (o : Option ℕ). o >>= λ k. digits_behind k ((48 + n % 10) ∷ [])) h
    ∙ (one_digit (n / 10) (n % 10) small within ∙ ap Some same))

more_steps : (n : ℕ) (ds : Bytes) → 10 ≤ n → AreDigits (n / 10) ds → AreDigits n (ds ++ (48 + n % 10) ∷ [])
more_steps n ds big k =
    let pos : 0 < n / 10 = omega arith in
    record {
      digits = digits_more ds (n % 10) (omega arith) k.digits;
      number = number_more (n / 10) ds (48 + n % 10) pos k;
      first = λ h. first_more (n / 10) ds (48 + n % 10) pos k;
      value = λ fits. value_more n ds fits (k.value (omega arith));
    }

-- the digits of a number that an integer type may have
pub are_digits : (n : ℕ) → n < 2 ^ 64 → AreDigits n (decimal n)
are_digits n fits = decimal_by_steps AreDigits one_step more_steps n fits
