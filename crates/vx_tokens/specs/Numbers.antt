-- What the digits of a number say.
use Rattle.std.specs.Prelude.{ℕ, zero, suc, ◌+◌, ◌-◌, ◌*◌, ◌^◌, nat_lt, ℤ, pos, negsuc}
use Rattle.std.specs.Prelude.{Bool, true, false, [], ◌∷◌, Option, Some, None, option_map, if◌then◌else◌}
use Rattle.vx_dtype.specs.Types.{Bytes}

-- the number of decimal digits behind another one; none from 2 ^ 64 on, which no integer type has
unfoldable pub digits_behind : ℕ → Bytes → Option ℕ
digits_behind n [] = Some n
digits_behind n (d ∷ digits) = if nat_lt (10 * n + (d - 48)) (2 ^ 64) then digits_behind (10 * n + (d - 48)) digits else None

abbrev pub number_value : Bytes → Option ℕ
number_value digits = digits_behind 0 digits

-- a number, with a sign before it or without
abbrev pub signed : Bool → ℕ → ℤ
signed true zero = pos zero
signed true (suc n) = negsuc n
signed false n = pos n

abbrev pub integer_of : Bool → Bytes → Option ℤ
integer_of negative digits = option_map (signed negative) (number_value digits)
