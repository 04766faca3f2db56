-- What the parts of an expression split by its columns are to one who evaluates them, each over rows of its own column, and then the root.
use Rattle.std.specs.Prelude.{◌≡◌, Bool, true, ◌||◌, map, Ok}
use Rattle.std.specs.List.{All, list_any}
use Rattle.vx_dtype.specs.Types.{Ty, Bytes, Fields}
use Rattle.vx_dtype.specs.TypeRules.{field_type, distinct_names, no_name_twice}
use Rattle.vx_dtype.specs.Values.{Val}
use Rattle.vx_dtype.specs.Fits.{fits_but_for_faults}
use Rattle.vx_dtype.specs.Structs.{field_of}
use Rattle.vx_expr.specs.Trees.{Tree}
use Rattle.vx_semantics.specs.Typing.{typed_of}
use Rattle.vx_semantics.specs.Meaning.{Slots}
use Rattle.vx_semantics.specs.Slots.{slots_fit}
use Rattle.vx_semantics.specs.Breaks.{Cause, breaks_by}
use Rattle.vx_semantics.specs.Asked.{asked_nodes}
use Rattle.vx_semantics.specs.Nodes.{some_node}
use Rattle.vx_semantics.specs.Tables.{row_type}
use Rattle.vx_passes.specs.Splitting.{Partition, Split, partitions_type}
use Rattle.vx_laws_simplifying.specs.Narrowing.{narrows}
use Rattle.vx_laws_parts.specs.Recombining.{partitions_row}
use Rattle.vx_laws_columns.specs.Columns.{SplitByColumns}

-- the strict type of the root over what the partitions give is the expression's, but perhaps less nullable
abbrev pub RootIsTyped : Type 0
RootIsTyped =
    (fs : Fields) (e : Tree) (u : Ty) (d : Tree) (s : Split Bytes) → SplitByColumns fs e u d s
    → (v : Ty) × (typed_of (partitions_type (λ c. c) s.partitions) s.root_expression ≡ Ok v) × (narrows v u ≡ true)

-- whether a node of an expression, asked or not, breaks by a cause at a row
abbrev pub node_breaks_at : Cause → Ty → Slots → Val → Tree → Bool
node_breaks_at cause t slots row e = some_node (breaks_by cause t slots row) e

-- whether a node of a partition breaks by a cause at a row, or one of the root at what the partitions mean there
abbrev pub split_nodes_break : Cause → Ty → Slots → Val → Split Bytes → Bool
split_nodes_break cause t slots row s =
    list_any (λ (p : Partition Bytes). node_breaks_at cause t slots row p.expression) s.partitions
    || node_breaks_at cause (partitions_type (λ c. c) s.partitions) slots (partitions_row (λ c. c) t slots row s.partitions) s.root_expression

-- at each row that fits but for faults, with any slots, such a node breaks by a cause exactly where a node that the expression asks does
abbrev pub NodesBreakAsAsked : Type 0
NodesBreakAsAsked =
    (fs : Fields) (slots : Slots) (row : Val) (e : Tree) (u : Ty) (d : Tree) (s : Split Bytes) (cause : Cause) → SplitByColumns fs e u d s
    → fits_but_for_faults row (row_type fs) ≡ true
    → split_nodes_break cause (row_type fs) slots row s ≡ list_any (breaks_by cause (row_type fs) slots row) (asked_nodes (row_type fs) e)

-- a partition over other rows, in which its column has the same type; at such a row with the same value of the column
-- a node of it breaks by the same causes
abbrev pub NodesStandAlone : Fields → Fields → Partition Bytes → Type 0
NodesStandAlone fs gs p =
    field_type p.annotation gs ≡ field_type p.annotation fs
    → (slots : Slots) (row other : Val) → field_of p.annotation other ≡ field_of p.annotation row → (cause : Cause)
    → node_breaks_at cause (row_type gs) slots other p.expression ≡ node_breaks_at cause (row_type fs) slots row p.expression

-- over rows of any fields among which its column has the same type, and no name stands twice, each partition is one
abbrev pub PartitionNodesStandAlone : Type 0
PartitionNodesStandAlone =
    (fs : Fields) (e : Tree) (u : Ty) (d : Tree) (s : Split Bytes) (gs : Fields) → SplitByColumns fs e u d s → no_name_twice (row_type gs) ≡ true
    → All (NodesStandAlone fs gs) s.partitions

-- slots that fit in the expression fit in each partition, and in the root
abbrev pub SplitSlotsFit : Type 0
SplitSlotsFit =
    (fs : Fields) (slots : Slots) (e : Tree) (u : Ty) (d : Tree) (s : Split Bytes) → SplitByColumns fs e u d s → slots_fit slots e ≡ true
    → All (λ p. slots_fit slots p.expression ≡ true) s.partitions × (slots_fit slots s.root_expression ≡ true)

-- no column has two partitions, and the struct of what the partitions give has no name twice, at any depth
abbrev pub PartitionsAreDistinct : Type 0
PartitionsAreDistinct =
    (fs : Fields) (e : Tree) (u : Ty) (d : Tree) (s : Split Bytes) → SplitByColumns fs e u d s
    → (distinct_names (map (λ p. p.annotation) s.partitions) ≡ true) × (no_name_twice (partitions_type (λ c. c) s.partitions) ≡ true)
