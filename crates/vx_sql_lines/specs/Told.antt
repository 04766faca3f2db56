-- What a statement names, or the line of its refusal.
use Rattle.std.specs.Prelude.{◌≡◌, Result, Ok, Err}
use Rattle.std.specs.String.{string_bytes}
use Rattle.vx_dtype.specs.Types.{Bytes, Ty}
use Rattle.vx_laws_statements.specs.Refusals as told
use Rattle.vx_sql.specs.StatementAnswers.{statement_refusal_view}
use Rattle.vx_sql.specs.declared.statement_refusals.SqlError.{SqlError}
use Rattle.vx_sql.specs.declared.statement_refusals.SqlError.TheVariants as errors
use Rattle.vx_sql_lines.specs.Lines.{line_of}
use Rattle.vx_sql_lines.specs.declared.told.ToldError.{ToldError}
use Rattle.vx_sql_lines.specs.declared.told.ToldError.TheVariants.{NoMemory, Refused}

-- this line is told; want of memory may be answered at any time
abbrev pub IsLine : Bytes → ToldError → Type 0
IsLine line NoMemory = Unit {0}
IsLine line (Refused given) = string_bytes given ≡ line

-- the line of an error is told
abbrev pub TellsError : Bytes → Ty → SqlError → ToldError → Type 0
TellsError text t errors.NoMemory told = told ≡ NoMemory
TellsError text t (errors.Refused r) told = IsLine (line_of text t (statement_refusal_view r)) told

-- the rules refuse, and the line of their refusal is told
abbrev pub TellsRefusal : {A : Type 0} → Bytes → Ty → Result A told.StatementRefusal → ToldError → Type 0
TellsRefusal text t given NoMemory = Unit {0}
TellsRefusal text t given (Refused line) = (r : told.StatementRefusal) × (given ≡ Err r) × (string_bytes line ≡ line_of text t r)

-- the answer, as it is seen, is what the rules give, or the line of their refusal
abbrev pub TellsStatement : {A B : Type 0} → (A → B) → Bytes → Ty → Result B told.StatementRefusal → Result A ToldError → Type 0
TellsStatement view text t given (Ok made) = given ≡ Ok (view made)
TellsStatement view text t given (Err error) = TellsRefusal text t given error
