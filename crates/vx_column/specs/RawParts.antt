-- What the code reads of a value that has no type: a truth, a number, and whether it is null.
use Rattle.std.specs.Prelude.{ℤ, Bool, true, false, Option, Some, None}
use Rattle.vx_dtype.specs.declared.Nullability.{Nullability}
use Rattle.vx_dtype.specs.TypeRules.{is_nullable}
use Rattle.vx_dtype.specs.Values.{Raw, raw_null, raw_bool, raw_int}

-- the truth of a boolean value, and none of another
abbrev pub raw_truth : Raw → Option Bool
raw_truth (raw_bool b) = Some b
raw_truth _ = None

-- the number of an integer value, and none of another
abbrev pub raw_number : Raw → Option ℤ
raw_number (raw_int i) = Some i
raw_number _ = None

-- whether a boolean type of this nullability has a truth, or the null where there is none
abbrev pub truth_fits : Nullability → Option Bool → Bool
truth_fits n None = is_nullable n
truth_fits n (Some b) = true

-- whether a value is null
abbrev pub is_raw_null : Raw → Bool
is_raw_null raw_null = true
is_raw_null _ = false
