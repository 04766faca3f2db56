-- Casts: integer to integer, boolean to boolean, text to text.
use Rattle.std.specs.Prelude.{Bool, true, false, cond}
use Rattle.vx_dtype.specs.Types.{Ty, bool_ty, int_ty, text_ty}
use Rattle.vx_dtype.specs.TypeRules.{is_nullable, nullability_of}
use Rattle.vx_dtype.specs.Values.{Val, null_val, bool_val, int_val, text_val, fault}
use Rattle.vx_dtype.specs.Sums.{int_in}

-- whether values of one type may be cast to another
abbrev pub takes_cast : Ty → Ty → Bool
takes_cast (bool_ty n) (bool_ty m) = true
takes_cast (int_ty p n) (int_ty q m) = true
takes_cast (text_ty n) (text_ty m) = true
takes_cast _ _ = false

-- the value in the type: null where the type is nullable, a number in its range, a boolean or a text as it is; else a fault
abbrev pub cast3 : Ty → Val → Val
cast3 t null_val = cond (is_nullable (nullability_of t)) null_val fault
cast3 (int_ty p n) (int_val q i) = int_in p i
cast3 (bool_ty n) (bool_val b) = bool_val b
cast3 (text_ty n) (text_val s) = text_val s
cast3 _ _ = fault
