-- What a predicate of SQL names over the columns of a schema: the WHERE of a statement that has nothing else.
use Rattle.std.specs.Prelude.{◌≡◌, ◌⊎◌, true, false, ◌++◌, codes, Option, Some, None, is_some, Result, Ok, Err}
use Rattle.std.specs.Str.{is_utf8}
use Rattle.std.specs.String.{string_bytes}
use Rattle.vx_dtype.specs.Types.{Bytes, Fields}
use Rattle.vx_expr.specs.Trees.{Tree}
use Rattle.vx_semantics.specs.Tables.{row_type}
use Rattle.vx_wire_bytes.specs.Wires.{Spells, HasShortParts}
use Rattle.vx_wire.specs.Forms.{wire_of, Everywhere}
use Rattle.vx_wire.specs.Metadata.{IsSerializable, HasShortMetadata}
use Rattle.vx_laws_pruning.specs.PruningTypes.{IsBooleanOver}
use Rattle.vx_laws_sql.specs.Operands.{TypedTree, boolean}
use Rattle.vx_laws_statements.specs.Refusals.{StatementRefusal}
use Rattle.vx_laws_statements.specs.Statements.{Plan, plan_of}
use Rattle.vx_sql_lines.specs.Lines.{line_of}
use Rattle.vx_calls.specs.Schemas.{columns_told, OverSchema}
use Rattle.vx_calls.specs.declared.errors.CallError.{CallError}
use Rattle.vx_calls.specs.declared.errors.CallError.TheVariants as errors

-- the statement whose WHERE a predicate is
abbrev pub statement_of : Bytes → Bytes
statement_of predicate = codes "SELECT * FROM t WHERE " ++ predicate

-- the condition by which a statement takes rows: true where it has none
abbrev pub filter_tree : Option TypedTree → Tree
filter_tree None = (boolean true).tree
filter_tree (Some condition) = condition.tree

-- a predicate names a filter over these columns: a text of UTF-8 whose whole statement is taken and has neither ORDER BY nor LIMIT. The filter is strictly
-- typed, a boolean
pub record NamesFilter (columns : Fields) (predicate : Bytes) (tree : Tree) : Type 0 where
  pub text : is_utf8 predicate ≡ true
  pub plan : Plan
  pub planned : plan_of (row_type columns) (statement_of predicate) ≡ Ok plan
  pub unordered : plan.order ≡ None
  pub unlimited : plan.limit ≡ None
  pub named : tree ≡ filter_tree plan.filter
  pub typed : IsBooleanOver (row_type columns) tree

-- bytes spell the filter that a predicate names over the columns of a schema
pub record SpellsFilter (schema predicate bytes : Bytes) : Type 0 where
  pub columns : Fields
  pub told : columns_told schema ≡ Ok columns
  pub tree : Tree
  pub filter : NamesFilter columns predicate tree
  pub shallow : Everywhere IsSerializable tree
  pub spelled : Spells bytes (wire_of tree)

-- the statement of a predicate is taken over the columns of a schema, and of what it names this holds
abbrev pub OverPlan : Bytes → Bytes → (Plan → Type 0) → Type 0
OverPlan schema predicate Holds =
    OverSchema schema (λ columns. (is_utf8 predicate ≡ true)
    × ((plan : Plan) × (plan_of (row_type columns) (statement_of predicate) ≡ Ok plan) × Holds plan))

-- the statement of a predicate isn't taken, and this line tells why
pub record RefusesPredicate (columns : Fields) (predicate line : Bytes) : Type 0 where
  pub text : is_utf8 predicate ≡ true
  pub refusal : StatementRefusal
  pub refused : plan_of (row_type columns) (statement_of predicate) ≡ Err refusal
  pub told : line ≡ line_of (statement_of predicate) (row_type columns) refusal

-- an expression in which no type is too deep for bytes, but a name, a text or a list, the bytes of a node's metadata or the list of its children is too long
abbrev pub IsOverlong : Tree → Type 0
IsOverlong tree = Everywhere IsSerializable tree × ((¬ (Everywhere HasShortMetadata tree)) ⊎ (¬ (HasShortParts (wire_of tree))))

-- a predicate names a filter over the columns of a schema of which this holds
abbrev pub OverNamed : Bytes → Bytes → (Tree → Type 0) → Type 0
OverNamed schema predicate Holds = OverSchema schema (λ columns. (tree : Tree) × NamesFilter columns predicate tree × Holds tree)

-- why the bytes of a predicate's filter aren't told: of the schema, of the predicate's text, of its statement, of what that orders and limits, and of the
-- filter's bytes; want of memory at any time
abbrev pub IsPredicateRefused : Bytes → Bytes → CallError → Type 0
IsPredicateRefused schema predicate errors.NoMemory = Unit {0}
IsPredicateRefused schema predicate (errors.Schema refusal) = columns_told schema ≡ Err refusal
IsPredicateRefused schema predicate errors.NotUtf8 = OverSchema schema (λ columns. is_utf8 predicate ≡ false)
IsPredicateRefused schema predicate (errors.Statement line) = OverSchema schema (λ columns. RefusesPredicate columns predicate (string_bytes line))
IsPredicateRefused schema predicate errors.Ordered = OverPlan schema predicate (λ plan. is_some plan.order ≡ true)
IsPredicateRefused schema predicate errors.Limited = OverPlan schema predicate (λ plan. (plan.order ≡ None) × (is_some plan.limit ≡ true))
IsPredicateRefused schema predicate errors.NotSerializable = OverNamed schema predicate (λ tree. ¬ (Everywhere IsSerializable tree))
IsPredicateRefused schema predicate errors.TooLong = OverNamed schema predicate IsOverlong
IsPredicateRefused schema predicate _ = ⊥

-- what is answered to a predicate over a schema: the bytes of the filter that it names, or why there are none
abbrev pub TellsFilterBytes : Bytes → Bytes → Result Bytes CallError → Type 0
TellsFilterBytes schema predicate (Ok bytes) = SpellsFilter schema predicate bytes
TellsFilterBytes schema predicate (Err error) = IsPredicateRefused schema predicate error
