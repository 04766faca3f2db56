-- How what the calls on statements answer is seen.
use Rattle.std.specs.Prelude.{◌≡◌, option_map, Result, Ok, Err}
use Rattle.vx_sql_forms.specs.Views.{typed_view}
use Rattle.vx_laws_statements.specs.Refusals as told
use Rattle.vx_laws_statements.specs.Clauses as clauses
use Rattle.vx_laws_statements.specs.Statements as statements
use Rattle.vx_sql.specs.Answers.{refusal_view}
use Rattle.vx_sql.specs.declared.statement_refusals.StatementRefusal.{StatementRefusal}
use Rattle.vx_sql.specs.declared.statement_refusals.StatementRefusal.TheVariants as refusal
use Rattle.vx_sql.specs.declared.statement_refusals.SqlError.{SqlError}
use Rattle.vx_sql.specs.declared.statement_refusals.SqlError.TheVariants.{NoMemory, Refused}
use Rattle.vx_sql.specs.declared.plans.Key.{Key}
use Rattle.vx_sql.specs.declared.plans.Plan.{Plan}

-- a refusal as data
abbrev pub statement_refusal_view : StatementRefusal → told.StatementRefusal
statement_refusal_view (refusal.ZeroByte place) = told.zero_byte place
statement_refusal_view (refusal.Unread error) = told.unread error
statement_refusal_view refusal.Nothing = told.no_statement
statement_refusal_view refusal.NoSelect = told.no_select
statement_refusal_view (refusal.SecondStatement place) = told.second_statement place
statement_refusal_view refusal.With = told.no_with
statement_refusal_view refusal.Compound = told.no_compound
statement_refusal_view refusal.Join = told.no_join
statement_refusal_view refusal.InnerQuery = told.no_inner_query
statement_refusal_view (refusal.Alias name) = told.no_alias name
statement_refusal_view refusal.Distinct = told.no_distinct
statement_refusal_view refusal.Group = told.no_group
statement_refusal_view refusal.Having = told.no_having
statement_refusal_view refusal.Offset = told.no_offset
statement_refusal_view refusal.Parameters = told.no_parameters
statement_refusal_view refusal.Clock = told.no_clock
statement_refusal_view refusal.NoTable = told.no_table
statement_refusal_view (refusal.TableName name) = told.no_table_name name
statement_refusal_view (refusal.InWhere r) = told.in_where (refusal_view r)
statement_refusal_view (refusal.InSelect r) = told.in_select (refusal_view r)
statement_refusal_view (refusal.InOrder r) = told.in_order (refusal_view r)
statement_refusal_view (refusal.InnerColumns name) = told.no_inner_columns name
statement_refusal_view (refusal.Unnamed written) = told.no_name written
statement_refusal_view (refusal.NameTwice name) = told.name_twice name
statement_refusal_view refusal.SeveralKeys = told.several_keys
statement_refusal_view refusal.NullsFirst = told.no_nulls_first
statement_refusal_view refusal.NoKey = told.no_key
statement_refusal_view (refusal.BadKey name) = told.no_order name
statement_refusal_view refusal.BadLimit = told.no_limit

-- the rules refuse with what the error holds; want of memory may be answered at any time
abbrev pub RefusesStatement : {A : Type 0} → Result A told.StatementRefusal → SqlError → Type 0
RefusesStatement given NoMemory = Unit {0}
RefusesStatement given (Refused r) = given ≡ Err (statement_refusal_view r)

-- the answer, as it is seen, is what the rules give, or their refusal
abbrev pub AnswersStatement : {A B : Type 0} → (A → B) → Result B told.StatementRefusal → Result A SqlError → Type 0
AnswersStatement view given (Ok made) = given ≡ Ok (view made)
AnswersStatement view given (Err e) = RefusesStatement given e

-- a column that rows are ordered by
abbrev pub key_view : Key → clauses.Key
key_view key = record { column = key.column; descending = key.descending }

-- what a statement names
abbrev pub plan_view : Plan → statements.Plan
plan_view p = record {
  table = p.table;
  filter = option_map typed_view p.filter;
  rows = typed_view p.rows;
  order = option_map key_view p.order;
  limit = p.limit;
}
