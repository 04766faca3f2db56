-- What the code makes of values that have no type: how two stand, whether a list holds one, and what one is cast to.
use Rattle.std.specs.Prelude.{Bool, false, ◌&&◌, ◌||◌, cond, Option, Some, None, option_map, unwrap_or}
use Rattle.std.specs.declared.cmp.Ordering.{Ordering}
use Rattle.std.specs.Ordering.{nat_cmp, int_cmp, bool_cmp, is_eq}
use Rattle.std.specs.Cmp.Lexicographic.{slice_cmp}
use Rattle.vx_dtype.specs.Types.{Ty, int_ty, list_ty}
use Rattle.vx_dtype.specs.TypeRules.{is_nullable, nullability_of, is_plain, alike}
use Rattle.vx_dtype.specs.Fits.{in_range}
use Rattle.vx_dtype.specs.Values.{Raw, raw_null, raw_bool, raw_int, raw_text, raw_list, Raws, no_raws, raw}

-- how two plain values of one kind stand; null stands nowhere
abbrev pub raw_order : Raw → Raw → Option Ordering
raw_order (raw_bool a) (raw_bool b) = Some (bool_cmp a b)
raw_order (raw_int a) (raw_int b) = Some (int_cmp a b)
raw_order (raw_text a) (raw_text b) = Some (slice_cmp nat_cmp a b)
raw_order _ _ = None

-- whether two plain values of one kind are equal; null equals nothing
abbrev pub raw_equal : Raw → Raw → Bool
raw_equal x y = unwrap_or (option_map is_eq (raw_order x y)) false

-- whether one of the values equals this one
abbrev pub raws_have : Raws → Raw → Bool
raws_have no_raws v = false
raws_have (raw x xs) v = raw_equal x v || raws_have xs v

-- whether a list holds a value, and none where one of the two is null
abbrev pub raw_contains : Raw → Raw → Option Bool
raw_contains (raw_list xs) raw_null = None
raw_contains (raw_list xs) v = Some (raws_have xs v)
raw_contains _ _ = None

-- whether a type is a list whose elements may be compared with values of the other type
abbrev pub lists_kind : Ty → Ty → Bool
lists_kind (list_ty e n) t = is_plain e && alike e t
lists_kind _ t = false

-- the value in the target type: null where the type is nullable, a number in its range, another value as it is; else none
abbrev pub raw_cast : Ty → Raw → Option Raw
raw_cast t raw_null = cond (is_nullable (nullability_of t)) (Some raw_null) None
raw_cast (int_ty p n) (raw_int i) = cond (in_range p i) (Some (raw_int i)) None
raw_cast t x = Some x
