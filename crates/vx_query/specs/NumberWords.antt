-- The numbers that words tell: at most so much, in decimal digits, of which no 0 stands before others.
use Rattle.std.specs.Prelude.{◌≡◌, ◌↔◌, ℕ, ◌+◌, ◌-◌, ◌*◌, ◌≤◌, ◌==◌, nat_le, Bool, true, false, cond, not, ◌&&◌, [], ◌∷◌, Option, Some, None, decimal}
use Rattle.vx_dtype.specs.Types.{Bytes}

-- the number of decimal digits behind another one; none where a byte is no digit, or it would be more than the most
abbrev pub is_digit : ℕ → Bool
is_digit b = nat_le 48 b && nat_le b 57

abbrev pub number_behind : ℕ → ℕ → Bytes → Option ℕ
number_behind most n [] = Some n
number_behind most n (b ∷ bytes) =
    cond (is_digit b && nat_le (10 * n + (b - 48)) most) (number_behind most (10 * n + (b - 48)) bytes) None

-- whether there are bytes, and no 0 stands before others
abbrev pub begins_as_number : Bytes → Bool
begins_as_number [] = false
begins_as_number (b ∷ []) = true
begins_as_number (b ∷ c ∷ bytes) = not (b == 48)

-- the number, at most so much, that a word tells, where it tells one
abbrev pub number_of_word : ℕ → Bytes → Option ℕ
number_of_word most word = cond (begins_as_number word) (number_behind most 0 word) None

-- a word tells a number exactly where it is the number's decimal digits and the number is at most so much
abbrev pub WordsTellNumbers : ℕ → Type 0
WordsTellNumbers most = (word : Bytes) (number : ℕ) → (number_of_word most word ≡ Some number) ↔ ((word ≡ decimal number) × (number ≤ most))
