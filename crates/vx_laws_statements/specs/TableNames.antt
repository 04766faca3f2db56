-- Which table a text of SQL names, before the columns of the table are known.
use Rattle.std.specs.Prelude.{◌≡◌, ◌==◌, ℕ, length, position, Option, Some, None, Result, Ok, Err}
use Rattle.sqlite_ast.specs.declared.Core.{out-Core}
use Rattle.sqlite_ast.specs.declared.Select.{Select, out-Select}
use Rattle.sqlite_syntax.specs.declared.error.ParseError.{ParseError}
use Rattle.sqlite_syntax.specs.declared.statement.Parsed.{Parsed}
use Rattle.sqlite_syntax.specs.Statement.{parse}
use Rattle.vx_dtype.specs.Types.{Bytes, Ty}
use Rattle.vx_laws_statements.specs.Refusals.{StatementRefusal, zero_byte, unread, second_statement, ◌>>=◌, unless, refused_as}
use Rattle.vx_laws_statements.specs.Clauses.{table_of}
use Rattle.vx_laws_statements.specs.Statements.{Plan, plain_select, without_parameters, selected, plan_of}

-- the table that a SELECT names; of its other clauses nothing is asked but that they are among those that are taken
unfoldable pub table_of_select : Parsed → Select → Result Bytes StatementRefusal
table_of_select p s = plain_select s >>= λ _. without_parameters p >>= λ _. table_of (out-Core (out-Select s).first).from

-- the table that the first statement of a text of so many bytes names, behind which none stands
abbrev pub table_of_parsed : ℕ → Parsed → Result Bytes StatementRefusal
table_of_parsed n p = selected p.statement >>= λ s. unless (p.tail == n) (second_statement p.tail) (table_of_select p s)

abbrev pub table_of_read : ℕ → Result Parsed ParseError → Result Bytes StatementRefusal
table_of_read n read = refused_as unread read >>= table_of_parsed n

abbrev pub table_without_zero : Bytes → Option ℕ → Result Bytes StatementRefusal
table_without_zero text (Some place) = Err (zero_byte place)
table_without_zero text None = table_of_read (length text) (parse text)

-- the table that a text of SQL names, whatever columns the table has, or why it names none
unfoldable pub table_named : Bytes → Result Bytes StatementRefusal
table_named text = table_without_zero text (position (λ b. b == 0) text)

-- a text that names anything over some columns names this table over all
abbrev pub TablesAreNamed : Type 0
TablesAreNamed = (t : Ty) (text : Bytes) (p : Plan) → plan_of t text ≡ Ok p → table_named text ≡ Ok p.table

-- a text that names no table names nothing over any columns, for the same reason
abbrev pub UnnamedTablesAreRefused : Type 0
UnnamedTablesAreRefused = (t : Ty) (text : Bytes) (r : StatementRefusal) → table_named text ≡ Err r → plan_of t text ≡ Err r
