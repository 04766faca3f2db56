-- The values at rows that numbers and texts stand for.
use Rattle.std.specs.Prelude.{ℤ, Bool, true, List, map, Option, Some, None}
use Rattle.vx_dtype.specs.declared.Nullability.{Nullability}
use Rattle.vx_dtype.specs.declared.PType.{PType}
use Rattle.vx_dtype.specs.Types.{Bytes}
use Rattle.vx_dtype.specs.TypeRules.{is_nullable}
use Rattle.vx_dtype.specs.Fits.{in_range}
use Rattle.vx_dtype.specs.Values.{Val, null_val, int_val, text_val}
use Rattle.vx_numbers.specs.Numbers.{NumberList}

-- the value of an integer type that a number stands for, and null where there is none
abbrev pub number_val : PType → Option ℤ → Val
number_val p None = null_val
number_val p (Some i) = int_val p i

-- the values that numbers of an integer type stand for
abbrev pub numbers_vals : NumberList → List Val
numbers_vals ns = map (number_val ns.ptype) ns.numbers

-- whether an integer type of this nullability has the number, or the null where there is none
abbrev pub number_fits : PType → Nullability → Option ℤ → Bool
number_fits p n None = is_nullable n
number_fits p n (Some i) = in_range p i

-- the value at a row that a text stands for
abbrev pub text_or_null : Option Bytes → Val
text_or_null None = null_val
text_or_null (Some s) = text_val s

-- whether a text type of this nullability has the text, or the null where there is none
abbrev pub text_or_null_fits : Nullability → Option Bytes → Bool
text_or_null_fits n None = is_nullable n
text_or_null_fits n (Some s) = true
