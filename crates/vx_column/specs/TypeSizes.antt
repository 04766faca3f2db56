-- For the checker: no public clause cites this. How great a type is: twice its depth, and one more where it is nullable. So a column is greater than those
-- of its fields, and than the column that it masks.
use Rattle.std.specs.Prelude.{ℕ, ◌+◌, ◌*◌, cond}
use Rattle.vx_dtype.specs.Types.{Ty}
use Rattle.vx_dtype.specs.TypeRules.{depth_of, is_nullable, nullability_of}

abbrev pub size_of : Ty → ℕ
size_of t = 2 * depth_of t + cond (is_nullable (nullability_of t)) 1 0
