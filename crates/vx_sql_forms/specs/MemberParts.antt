-- For the checker: no public clause cites this. The parts of a membership.
use Rattle.std.specs.Prelude.{List, [], ◌∷◌, ◌++◌, map, Result, Ok}
use Rattle.std.specs.declared.alloc.Global.{Global}
use Rattle.std.specs.declared.vec.Vec.{Vec}
use Rattle.vx_dtype.specs.Fits.{fits}
use Rattle.vx_dtype.specs.RawViews.{raw_view, raws_of}
use Rattle.vx_dtype.specs.Types.{Ty, bool_ty}
use Rattle.vx_dtype.specs.declared.Nullability.TheVariants.{Nullable}
use Rattle.vx_dtype.specs.Values.{Raw, Raws, raw_null}
use Rattle.vx_dtype.specs.declared.ScalarValue.{ScalarValue}
use Rattle.vx_expr.specs.declared.Operator.{Operator}
use Rattle.vx_expr.specs.Trees.{binary}
use Rattle.vx_laws_sql.specs.Operands.{TypedTree, Operand, Mismatch, ◌>>=◌, where_it, null_of, taking}
use Rattle.vx_laws_sql.specs.Membership.{wrong_constant, first_typed, member_of}

-- the values of a list, one by one
abbrev pub values_view : Vec ScalarValue Global → List Raw
values_view values = map raw_view values.items

-- the same as one
abbrev pub raws_view : Vec ScalarValue Global → Raws
raws_view values = raws_of (map raw_view values.items)

-- values with a constant behind them, where it is one of the type; NULL is left out
abbrev pub one_more : TypedTree → Ty → Raw → List Raw → Result (List Raw) Mismatch
one_more e t raw_null cs = Ok cs
one_more e t c cs = where_it (fits c t) (wrong_constant e t c) (Ok (cs ++ c ∷ []))

-- a test, null where it isn't true
abbrev pub or_null : TypedTree → TypedTree
or_null e = record { ty = bool_ty Nullable; tree = binary e.tree Operator.Or (null_of (bool_ty Nullable)).tree }

-- membership of an operand in constants, of which there may be none
abbrev pub among : Operand → List Raw → Result TypedTree Mismatch
among o cs = taking (first_typed cs) o >>= λ e. member_of e cs
