-- The table that a statement names is known by its first steps, which look at no columns.
use Rattle.std.proofs.Common.{◌≡◌, refl, ap, ℕ, Bool, true, false, ◌==◌, length, Option, Some, None, position, Result, Ok, Err}
use Rattle.sqlite_ast.specs.declared.Select.{Select, out-Select}
use Rattle.sqlite_ast.specs.declared.Core.{Core, out-Core}
use Rattle.sqlite_syntax.specs.declared.error.ParseError.{ParseError}
use Rattle.sqlite_syntax.specs.declared.statement.Parsed.{Parsed}
use Rattle.sqlite_syntax.specs.Statement.{parse}
use Rattle.vx_dtype.specs.Types.{Bytes, Ty}
use Rattle.vx_laws_statements.specs.Refusals.{StatementRefusal, zero_byte, unread, second_statement, ◌>>=◌, unless, refused_as}
use Rattle.vx_laws_statements.specs.Clauses.{table_of, filter_of, order_of, limit_of, rows_of}
use Rattle.vx_laws_statements.specs.Statements.{Plan, plain_select, clauses_of, without_parameters, select_of, selected, read_of}
use Rattle.vx_laws_statements.specs.Statements.{text_without_zero, plan_of}
use Rattle.vx_laws_statements.specs.TableNames.{table_of_select, table_of_read, table_without_zero, table_named, TablesAreNamed, UnnamedTablesAreRefused}
use Rattle.vx_laws_statements.proofs.Steps.{stepped, same_answer}

-- the steps of a plan begin with those of its table: what is planned has this table, and what has no table isn't planned, for the same reason
record Begins (table : Result Bytes StatementRefusal) (plan : Result Plan StatementRefusal) : Type 0 where
  pub named : (p : Plan) → plan ≡ Ok p → table ≡ Ok p.table
  pub refused : (r : StatementRefusal) → table ≡ Err r → plan ≡ Err r

-- both are refused
both-refused : (r : StatementRefusal) → Begins (Err r) (Err r)
both-refused r = record { named = λ p h. (let no : ⊥ = cc (h) in absurd no); refused = λ s h. cc (h) }

-- one step more before both
step-before : {X : Type 0} (first : Result X StatementRefusal) (table : X → Result Bytes StatementRefusal) (plan : X → Result Plan StatementRefusal)
    → ((x : X) → Begins (table x) (plan x)) → Begins (first >>= table) (first >>= plan)
step-before (Ok x) table plan behind = behind x
step-before (Err r) table plan behind = both-refused r

-- one test more before both
test-before : (test : Bool) (r : StatementRefusal) (table : Result Bytes StatementRefusal) (plan : Result Plan StatementRefusal)
    → Begins table plan → Begins (unless test r table) (unless test r plan)
test-before true r table plan behind = behind
test-before false r table plan behind = both-refused r

-- the steps behind the table leave it as it is
table-kept : (table : Result Bytes StatementRefusal) (behind : Bytes → Result Plan StatementRefusal)
    → ((name : Bytes) (p : Plan) → behind name ≡ Ok p → name ≡ p.table) → Begins table (table >>= behind)
table-kept (Ok name) behind kept = record { named = λ p h. ap (λ (s : Bytes). Ok s) (kept name p h); refused = λ r h. (let no : ⊥ = cc (h) in absurd no) }
table-kept (Err r) behind kept = both-refused r

clauses-begin : (t : Ty) (c : Core) (s : Select) → Begins (table_of (out-Core c).from) (clauses_of t c s)
clauses-begin t c s = table-kept (table_of (out-Core c).from) behind kept where
  behind : Bytes → Result Plan StatementRefusal
  behind name =
      filter_of t (out-Core c).filter >>= λ filter. rows_of t (out-Core c).shown >>= λ rows.
      order_of t (out-Select s).order >>= λ order. limit_of (out-Select s).limit >>= λ limit.
      Ok (record { table = name; filter = filter; rows = rows; order = order; limit = limit })

  kept : (name : Bytes) (p : Plan) → behind name ≡ Ok p → name ≡ p.table
  kept name p h =
      let filter = stepped (filter_of t (out-Core c).filter) (λ filter. rows_of t (out-Core c).shown >>= λ rows.
      order_of t (out-Select s).order >>= λ order. limit_of (out-Select s).limit >>= λ limit.
      Ok (record { table = name; filter = filter; rows = rows; order = order; limit = limit })) p h in
      let rows = stepped (rows_of t (out-Core c).shown) (λ rows. order_of t (out-Select s).order >>= λ order. limit_of (out-Select s).limit >>= λ limit.
      Ok (record { table = name; filter = filter.given; rows = rows; order = order; limit = limit })) p filter.gave in
      let order = stepped (order_of t (out-Select s).order) (λ order. limit_of (out-Select s).limit >>= λ limit.
      Ok (record { table = name; filter = filter.given; rows = rows.given; order = order; limit = limit })) p rows.gave in
      let limit = stepped (limit_of (out-Select s).limit) (λ limit.
      Ok (record { table = name; filter = filter.given; rows = rows.given; order = order.given; limit = limit })) p order.gave in
      let plan : Plan = record { table = name; filter = filter.given; rows = rows.given; order = order.given; limit = limit.given } in
      ap (λ (z : Plan). z.table) (same_answer (Ok plan) plan p refl limit.gave)

select-begins : (t : Ty) (q : Parsed) (s : Select) → Begins (table_of_select q s) (select_of t q s)
unfolding select_of table_of_select
select-begins t q s =
    let core = (out-Select s).first in
    step-before (plain_select s) (λ _. without_parameters q >>= λ _. table_of (out-Core core).from) (λ _. without_parameters q >>= λ _. clauses_of t core s)
    (λ _. step-before (without_parameters q) (λ _. table_of (out-Core core).from) (λ _. clauses_of t core s) (λ _. clauses-begin t core s))

read-begins : (t : Ty) (n : ℕ) (read : Result Parsed ParseError) → Begins (table_of_read n read) (read_of t n read)
read-begins t n read =
    step-before (refused_as unread read) (λ q. selected q.statement >>= λ s. unless (q.tail == n) (second_statement q.tail) (table_of_select q s))
    (λ q. selected q.statement >>= λ s. unless (q.tail == n) (second_statement q.tail) (select_of t q s))
    (λ q. step-before (selected q.statement) (λ s. unless (q.tail == n) (second_statement q.tail) (table_of_select q s))
    (λ s. unless (q.tail == n) (second_statement q.tail) (select_of t q s))
    (λ s. test-before (q.tail == n) (second_statement q.tail) (table_of_select q s) (select_of t q s) (select-begins t q s)))

text-begins : (t : Ty) (text : Bytes) (place : Option ℕ) → Begins (table_without_zero text place) (text_without_zero t text place)
text-begins t text None = read-begins t (length text) (parse text)
text-begins t text (Some place) = both-refused (zero_byte place)

named-begins : (t : Ty) (text : Bytes) → Begins (table_named text) (plan_of t text)
unfolding plan_of table_named
named-begins t text = text-begins t text (position (λ b. b == 0) text)

pub tables-named : TablesAreNamed
tables-named t text p h = (named-begins t text).named p h

pub unnamed-refused : UnnamedTablesAreRefused
unnamed-refused t text r h = (named-begins t text).refused r h
