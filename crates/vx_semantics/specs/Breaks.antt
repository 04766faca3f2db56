-- Where a node breaks: a sum, a difference or a cast that has no value while none of its operands is a fault.
use Rattle.std.specs.Prelude.{Bool, true, false, cond, not, ◌&&◌, Option, Some, None, is_some}
use Rattle.vx_dtype.specs.Types.{Ty}
use Rattle.vx_dtype.specs.Values.{Val, fault}
use Rattle.vx_expr.specs.declared.Operator.{Operator}
use Rattle.vx_expr.specs.Trees.{Tree, binary, cast}
use Rattle.vx_semantics.specs.Meaning.{Slots, mean}

-- what breaks: a sum or difference, or a cast
pub data Cause : Type 0 where
  by_sum : Cause
  by_cast : Cause

-- whether a value is a fault itself
abbrev pub is_fault : Val → Bool
is_fault fault = true
is_fault _ = false

-- the cause, where the value is a fault and the operands, of which this says whether none is one, are not
abbrev pub cause_where : Bool → Val → Cause → Option Cause
cause_where sound v c = cond (sound && is_fault v) (Some c) None

-- by what a node itself breaks at a row, if it does
abbrev pub break_of : Ty → Slots → Val → Tree → Option Cause
break_of t slots row (binary l Operator.Add r) =
    cause_where (not (is_fault (mean t slots row l)) && not (is_fault (mean t slots row r))) (mean t slots row (binary l Operator.Add r)) by_sum
break_of t slots row (binary l Operator.Sub r) =
    cause_where (not (is_fault (mean t slots row l)) && not (is_fault (mean t slots row r))) (mean t slots row (binary l Operator.Sub r)) by_sum
break_of t slots row (cast e target) = cause_where (not (is_fault (mean t slots row e))) (mean t slots row (cast e target)) by_cast
break_of t slots row _ = None

-- whether a node breaks at a row
abbrev pub breaks : Ty → Slots → Val → Tree → Bool
breaks t slots row e = is_some (break_of t slots row e)

-- whether a cause is this one
abbrev pub is_cause : Cause → Option Cause → Bool
is_cause by_sum (Some by_sum) = true
is_cause by_cast (Some by_cast) = true
is_cause _ _ = false

-- whether a node breaks at a row by this cause
abbrev pub breaks_by : Cause → Ty → Slots → Val → Tree → Bool
breaks_by c t slots row e = is_cause c (break_of t slots row e)
