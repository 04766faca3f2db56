-- What a text of SQL names over a table.
use Rattle.std.specs.Prelude.{ℕ, ◌==◌, not, is_some, length, Option, Some, None, position, Result, Ok, Err}
use Rattle.sqlite_ast.specs.declared.Core.{Core, out-Core}
use Rattle.sqlite_ast.specs.declared.Select.{Select, out-Select}
use Rattle.sqlite_ast.specs.declared.Statement.{Statement}
use Rattle.sqlite_ast.specs.declared.Statement.TheVariants as statement
use Rattle.sqlite_syntax.specs.declared.error.ParseError.{ParseError}
use Rattle.sqlite_syntax.specs.declared.statement.Parsed.{Parsed}
use Rattle.sqlite_syntax.specs.Statement.{parse}
use Rattle.vx_dtype.specs.Types.{Bytes, Ty}
use Rattle.vx_laws_sql.specs.Operands.{TypedTree}
use Rattle.vx_laws_statements.specs.Refusals.{StatementRefusal, zero_byte, unread, no_statement, no_select, second_statement, no_with, no_compound}
use Rattle.vx_laws_statements.specs.Refusals.{no_distinct, no_group, no_having, no_offset, no_parameters, no_clock, ◌>>=◌, unless, refused_as}
use Rattle.vx_laws_statements.specs.Clauses.{Key, plain_from, table_of, filter_of, rows_of, order_of, limit_of}

-- what a statement names: the table, the condition that rows are taken by, the rows of the answer, their order, and how many
pub record Plan : Type 0 where
  pub table : Bytes
  pub filter : Option TypedTree
  pub rows : TypedTree
  pub order : Option Key
  pub limit : Option ℕ

-- the first clause that isn't taken
abbrev pub plain_core : Core → Result (Unit {0}) StatementRefusal
plain_core c =
    plain_from (out-Core c).from >>= λ _. unless (not (out-Core c).distinct) no_distinct
    (unless (length (out-Core c).group == 0) no_group (unless (not (is_some (out-Core c).having)) no_having (Ok tt)))

unfoldable pub plain_select : Select → Result (Unit {0}) StatementRefusal
plain_select s =
    unless (length (out-Select s).with == 0) no_with (unless (length (out-Select s).others == 0) no_compound
    (plain_core (out-Select s).first >>= λ _. unless (not (is_some (out-Select s).offset)) no_offset (Ok tt)))

-- a SELECT of clauses that are taken, in the order in which they are looked at
abbrev pub clauses_of : Ty → Core → Select → Result Plan StatementRefusal
clauses_of t c s =
    table_of (out-Core c).from >>= λ table. filter_of t (out-Core c).filter >>= λ filter. rows_of t (out-Core c).shown >>= λ rows.
    order_of t (out-Select s).order >>= λ order. limit_of (out-Select s).limit >>= λ limit.
    Ok (record { table = table; filter = filter; rows = rows; order = order; limit = limit })

-- a statement without parameters, which doesn't read the clock
abbrev pub without_parameters : Parsed → Result (Unit {0}) StatementRefusal
without_parameters p = unless (length p.names == 0) no_parameters (unless (length p.formats == 0) no_clock (Ok tt))

unfoldable pub select_of : Ty → Parsed → Select → Result Plan StatementRefusal
select_of t p s = plain_select s >>= λ _. without_parameters p >>= λ _. clauses_of t (out-Select s).first s

abbrev pub selected : Statement → Result Select StatementRefusal
selected (statement.Select s) = Ok s
selected statement.Empty = Err no_statement
selected _ = Err no_select

-- the first statement of a text of so many bytes, behind which none stands
abbrev pub parsed_of : Ty → ℕ → Parsed → Result Plan StatementRefusal
parsed_of t n p = selected p.statement >>= λ s. unless (p.tail == n) (second_statement p.tail) (select_of t p s)

abbrev pub read_of : Ty → ℕ → Result Parsed ParseError → Result Plan StatementRefusal
read_of t n read = refused_as unread read >>= parsed_of t n

abbrev pub text_without_zero : Ty → Bytes → Option ℕ → Result Plan StatementRefusal
text_without_zero t text (Some place) = Err (zero_byte place)
text_without_zero t text None = read_of t (length text) (parse text)

-- what a text of SQL names over a table of this type, or why it names nothing
unfoldable pub plan_of : Ty → Bytes → Result Plan StatementRefusal
plan_of t text = text_without_zero t text (position (λ b. b == 0) text)
