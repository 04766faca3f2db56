-- The line of a refusal that the rules have.
use Rattle.std.proofs.Common.{◌≡◌, sym, subst, Result, Err}
use Rattle.vx_dtype.specs.Types.{Bytes, Ty}
use Rattle.vx_laws_statements.specs.Refusals as told
use Rattle.vx_sql.specs.StatementAnswers.{RefusesStatement, statement_refusal_view}
use Rattle.vx_sql.specs.declared.statement_refusals.SqlError.{SqlError}
use Rattle.vx_sql.specs.declared.statement_refusals.SqlError.TheVariants as errors
use Rattle.vx_sql_lines.specs.Lines.{line_of}
use Rattle.vx_sql_lines.specs.declared.told.ToldError.{ToldError}
use Rattle.vx_sql_lines.specs.declared.told.ToldError.TheVariants as tells
use Rattle.vx_sql_lines.specs.Told.{IsLine, TellsError, TellsRefusal}

refusal_told : {A : Type 0} (text : Bytes) (t : Ty) (given : Result A told.StatementRefusal) (r : told.StatementRefusal) (error : ToldError) → given ≡ Err r
    → IsLine (line_of text t r) error → TellsRefusal text t given error
refusal_told text t given r tells.NoMemory is h = tt
refusal_told text t given r (tells.Refused line) is h = (r, is, h)

-- an error of the rules is told by the line of their refusal
pub error_told : {A : Type 0} (text : Bytes) (t : Ty) (given : Result A told.StatementRefusal) (error : SqlError) (line : ToldError) → RefusesStatement given error
    → TellsError text t error line → TellsRefusal text t given line
error_told text t given errors.NoMemory line refuses h = subst (TellsRefusal text t given) (sym h) tt
error_told text t given (errors.Refused r) line refuses h = refusal_told text t given (statement_refusal_view r) line refuses h
