-- Why a text of SQL names nothing over a table.
use Rattle.std.specs.Prelude.{ℕ, Bool, true, false, Result, Ok, Err, Option, Some, None}
use Rattle.sqlite_ast.specs.declared.Unary.{Unary}
use Rattle.sqlite_ast.specs.declared.Binary.{Binary}
use Rattle.sqlite_syntax.specs.declared.error.ParseError.{ParseError}
use Rattle.vx_dtype.specs.Types.{Bytes}
use Rattle.vx_laws_sql.specs.Operands.{Operand, Mismatch}

-- why an expression isn't taken
pub data Refusal : Type 0 where
  -- more levels than are read
  too_deep : Refusal
  -- a form that isn't taken: the call of a function, by its name; CASE; a query; a parameter, or what reads the clock
  no_call : Bytes → Refusal
  no_case : Refusal
  no_query : Refusal
  no_parameter : Refusal
  -- a number with a point or an exponent, a hexadecimal number, and a blob, by what is written
  no_fraction : Bytes → Refusal
  no_hexadecimal : Bytes → Refusal
  no_blob : Bytes → Refusal
  -- an operator that isn't taken, before its operand and between two
  no_prefix : Unary → Refusal
  no_operator : Binary → Refusal
  -- digits of a number from 2 ^ 120 on
  no_integer : Bytes → Refusal
  -- bytes that aren't UTF-8
  no_text : Bytes → Refusal
  -- a name that is no column, and one that is no field of the column before it
  no_column : Bytes → Refusal
  no_field : Bytes → Bytes → Refusal
  -- a name that is no type
  no_type : Bytes → Refusal
  -- a member of a list that is a column, or a field of one, and another one that is no constant
  listed_column : Option Bytes → Bytes → Refusal
  no_constant : Refusal
  -- operands that have no place in their form
  misplaced : Mismatch → Refusal
  -- a condition that is no boolean
  no_condition : Operand → Refusal

-- why a statement isn't taken
pub data StatementRefusal : Type 0 where
  -- a byte 0, by its place; what the grammar has no rule for
  zero_byte : ℕ → StatementRefusal
  unread : ParseError → StatementRefusal
  -- no statement, another statement than SELECT, and a second statement, by its place
  no_statement : StatementRefusal
  no_select : StatementRefusal
  second_statement : ℕ → StatementRefusal
  -- what isn't taken wherever it stands: WITH, UNION and its kin, several tables, a query in place of a table, an alias of the table
  no_with : StatementRefusal
  no_compound : StatementRefusal
  no_join : StatementRefusal
  no_inner_query : StatementRefusal
  no_alias : Bytes → StatementRefusal
  no_distinct : StatementRefusal
  no_group : StatementRefusal
  no_having : StatementRefusal
  no_offset : StatementRefusal
  -- a parameter, and what reads the clock
  no_parameters : StatementRefusal
  no_clock : StatementRefusal
  -- no table, and one whose name isn't UTF-8
  no_table : StatementRefusal
  no_table_name : Bytes → StatementRefusal
  -- an expression of a clause
  in_where : Refusal → StatementRefusal
  in_select : Refusal → StatementRefusal
  in_order : Refusal → StatementRefusal
  -- in SELECT: the columns of a struct, an expression without a name by what is written, a name twice
  no_inner_columns : Bytes → StatementRefusal
  no_name : Bytes → StatementRefusal
  name_twice : Bytes → StatementRefusal
  -- in ORDER BY: several keys, NULLS FIRST, a key that is no column, a column of no plain type
  several_keys : StatementRefusal
  no_nulls_first : StatementRefusal
  no_key : StatementRefusal
  no_order : Bytes → StatementRefusal
  -- in LIMIT: no number from 0 to 2^64 - 1
  no_limit : StatementRefusal

-- what a step gives over what the step before it gave, or its refusal
infixl 20 ◌>>=◌
abbrev pub ◌>>=◌ : {X Y E : Type 0} → Result X E → (X → Result Y E) → Result Y E
(Ok x) >>= next = next x
(Err r) >>= next = Err r

-- the answer where the test holds, else the refusal
abbrev pub unless : {X E : Type 0} → Bool → E → Result X E → Result X E
unless true r answer = answer
unless false r answer = Err r

-- the value that there is, else the refusal
abbrev pub there : {X E : Type 0} → E → Option X → Result X E
there r (Some x) = Ok x
there r None = Err r

-- an answer whose refusal stands in a clause
abbrev pub refused_as : {X E F : Type 0} → (E → F) → Result X E → Result X F
refused_as name (Ok x) = Ok x
refused_as name (Err r) = Err (name r)
