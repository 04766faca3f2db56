-- For the checker: no public clause cites this. What the refusals below a step are to it.
use Rattle.std.specs.Prelude.{◌≡◌, List, Option, Some, None, Result, Ok, Err}
use Rattle.vx_dtype.specs.Types.{Bytes}
use Rattle.vx_column.specs.declared.errors.ColumnError.{ColumnError}
use Rattle.vx_column.specs.declared.errors.ColumnError.TheVariants.{NoMemory, WrongLength, WrongValue, DuplicateField, UnknownField, Overflow, BadCast}
use Rattle.vx_eval.specs.declared.errors.Failure.{Failure}
use Rattle.vx_eval.specs.declared.errors.Failure.TheVariants as failures

-- the failure that a refusal to make a column is
abbrev pub failure_of : ColumnError → Failure
failure_of NoMemory = failures.NoMemory
failure_of WrongLength = failures.Mistyped
failure_of WrongValue = failures.Mistyped
failure_of DuplicateField = failures.Mistyped
failure_of UnknownField = failures.Mistyped
failure_of Overflow = failures.Overflow
failure_of BadCast = failures.BadCast

-- the names that are told, or mistyped where there are none
abbrev pub NamesTaken : Option (List Bytes) → Result (List Bytes) Failure → Type 0
NamesTaken told (Ok names) = told ≡ Some names
NamesTaken told (Err failures.Mistyped) = told ≡ None
NamesTaken told (Err failures.NoMemory) = Unit {0}
NamesTaken told (Err failures.Overflow) = ⊥
NamesTaken told (Err failures.BadCast) = ⊥
