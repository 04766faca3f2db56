-- Sums and differences of integers: a fault where the number leaves the type.
use Rattle.std.specs.Prelude.{ℤ, ◌+ℤ◌, ◌-ℤ◌, cond}
use Rattle.vx_dtype.specs.Types.{PType}
use Rattle.vx_dtype.specs.Values.{Val, int_val, fault}
use Rattle.vx_dtype.specs.Fits.{in_range}
use Rattle.vx_dtype.specs.Logic.{on_known}

-- the number as a value of the integer type, or a fault out of its range
abbrev pub int_in : PType → ℤ → Val
int_in p i = cond (in_range p i) (int_val p i) fault

-- the sum and the difference of two numbers; what is no number has none
abbrev pub sum_of : Val → Val → Val
sum_of (int_val p a) (int_val q b) = int_in p (a +ℤ b)
sum_of _ _ = fault

abbrev pub difference_of : Val → Val → Val
difference_of (int_val p a) (int_val q b) = int_in p (a -ℤ b)
difference_of _ _ = fault

-- the sum and the difference of two values
abbrev pub add3 : Val → Val → Val
add3 l r = on_known sum_of l r

abbrev pub sub3 : Val → Val → Val
sub3 l r = on_known difference_of l r
