-- What a statement wants of a table: rows in the table's order, or the first ones by a key.
use Rattle.std.specs.Prelude.{ℕ, nat_le, true, cond, Option, Some, None, unwrap_or, Result, Ok, Err}
use Rattle.vx_dtype.specs.declared.Nullability.TheVariants.{NonNullable}
use Rattle.vx_dtype.specs.Types.{Bytes, Ty, bool_ty, Fields}
use Rattle.vx_dtype.specs.TypeRules.{field_type}
use Rattle.vx_expr.specs.Trees.{Tree}
use Rattle.vx_laws_sql.specs.Operands.{TypedTree, boolean}
use Rattle.vx_laws_statements.specs.Clauses.{Key}
use Rattle.vx_laws_statements.specs.Statements.{Plan}
use Rattle.vx_laws_topk.specs.TopRows.{TopAsk}

-- the condition of a plan: without one each row is taken
abbrev pub condition_tree : Option TypedTree → Tree
condition_tree None = (boolean true).tree
condition_tree (Some condition) = condition.tree

-- why the rows of a plan aren't wanted: their order has no limit, or one that is too great
pub data OrderRefusal : Type 0 where
  unlimited : OrderRefusal
  too_many : ℕ → OrderRefusal

-- the rows that are wanted: all, or the first so many, in the table's order; or the first by a key
pub data Wanted : Type 0 where
  in_order : Option ℕ → Wanted
  first_by : TopAsk → Wanted

-- the most rows that are wanted by a key
abbrev pub most_by_key : ℕ
most_by_key = 1048576

-- the type of a key; the key of each plan is a column
abbrev pub key_type : Fields → Bytes → Ty
key_type columns key = unwrap_or (field_type key columns) (bool_ty NonNullable)

-- the first rows of a plan by a key
abbrev pub ask_by : Fields → Plan → Key → ℕ → TopAsk
ask_by columns plan key count =
    record {
      filter_expr = condition_tree plan.filter;
      projection = plan.rows.tree;
      key = key.column;
      key_type = key_type columns key.column;
      descending = key.descending;
      count = count;
    }

-- the first rows of a plan by a key, where as many are asked as can be held at once
abbrev pub wanted_by : Fields → Plan → Key → Option ℕ → Result Wanted OrderRefusal
wanted_by columns plan key None = Err unlimited
wanted_by columns plan key (Some count) =
    cond (nat_le count most_by_key) (Ok (first_by (ask_by columns plan key count))) (Err (too_many count))

abbrev pub wanted_in : Fields → Plan → Option Key → Result Wanted OrderRefusal
wanted_in columns plan None = Ok (in_order plan.limit)
wanted_in columns plan (Some key) = wanted_by columns plan key plan.limit

-- what a plan wants of a table with these columns
unfoldable pub wanted_of : Fields → Plan → Result Wanted OrderRefusal
wanted_of columns plan = wanted_in columns plan plan.order
