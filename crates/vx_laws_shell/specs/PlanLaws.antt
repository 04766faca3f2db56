-- What holds of each plan: no part of it compares with a slot, and its key is a column of a plain type.
use Rattle.std.specs.Prelude.{◌≡◌, true, Some, MatchOption, Ok}
use Rattle.vx_dtype.specs.Types.{Bytes, Ty, Fields}
use Rattle.vx_dtype.specs.TypeRules.{field_type, is_plain}
use Rattle.vx_semantics.specs.Tables.{row_type}
use Rattle.vx_laws_statements.specs.Clauses.{Key}
use Rattle.vx_laws_statements.specs.Statements.{Plan, plan_of}
use Rattle.vx_laws_topk.specs.TopLaws.{has_no_slot}
use Rattle.vx_laws_shell.specs.Wants.{condition_tree, key_type}

-- neither the condition nor the rows of a plan compare with a slot
abbrev pub PlansHaveNoSlot : Type 0
PlansHaveNoSlot =
    (t : Ty) (text : Bytes) (p : Plan) → plan_of t text ≡ Ok p
    → (has_no_slot (condition_tree p.filter) ≡ true) × (has_no_slot p.rows.tree ≡ true)

-- the key is a column of a plain type
pub record IsPlainKey (columns : Fields) (key : Key) : Type 0 where
  pub column : field_type key.column columns ≡ Some (key_type columns key.column)
  pub plain : is_plain (key_type columns key.column) ≡ true

-- the key of a plan, where it has one, is such
abbrev pub PlanKeysArePlain : Type 0
PlanKeysArePlain =
    (columns : Fields) (text : Bytes) (p : Plan) → plan_of (row_type columns) text ≡ Ok p → MatchOption p.order (Unit {0}) (IsPlainKey columns)
