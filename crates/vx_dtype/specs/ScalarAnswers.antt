-- What the calls that make scalars answer.
use Rattle.std.specs.Prelude.{◌≡◌, Bool, ◌&&◌, true, false, cond, List, map, Option, None, Result, Ok, Err}
use Rattle.std.specs.declared.cmp.Ordering.{Ordering}
use Rattle.vx_dtype.specs.declared.scalars.errors.ScalarError.{ScalarError}
use Rattle.vx_dtype.specs.declared.scalars.errors.ScalarError.TheVariants.{NoMemory, WrongValue}
use Rattle.vx_dtype.specs.Types.{Ty}
use Rattle.vx_dtype.specs.TypeRules.{alike, is_plain}
use Rattle.vx_dtype.specs.Values.{Raw, raw_null, Raws, Typed, value_of}
use Rattle.vx_dtype.specs.RawViews.{raws_of}
use Rattle.vx_dtype.specs.Fits.{fits}
use Rattle.vx_dtype.specs.Order.{order}

-- a value beside its type
abbrev pub typed : Ty → Raw → Typed
typed t r = record { ty = t; value = r }

-- the scalar where the value is one of the type, else the refusal
abbrev pub Fitted : {E : Type 0} → Ty → Raw → Result Typed E → Type 0
Fitted t r (Ok s) = (fits r t ≡ true) × (s ≡ typed t r)
Fitted t r (Err e) = fits r t ≡ false

-- the same of a call that may lack memory
abbrev pub FittedInMemory : Ty → Raw → Result Typed ScalarError → Type 0
FittedInMemory t r (Ok s) = (fits r t ≡ true) × (s ≡ typed t r)
FittedInMemory t r (Err WrongValue) = fits r t ≡ false
FittedInMemory t r (Err NoMemory) = Unit {0}

-- the values of scalars, in order
abbrev pub values_alone : List Typed → Raws
values_alone ss = raws_of (map (λ s. s.value) ss)

-- whether a raw value is null
abbrev pub is_raw_null : Raw → Bool
is_raw_null raw_null = true
is_raw_null _ = false

-- how two scalars of equal plain types stand; none where the types aren't, or one of the two is null
abbrev pub scalar_order : Typed → Typed → Option Ordering
scalar_order a b = cond (alike a.ty b.ty && is_plain a.ty) (order (value_of a) (value_of b)) None
