-- Expressions split by the columns that they touch.
use Rattle.std.specs.Prelude.{◌≡◌, ◌<◌, ◌^◌, Bool, true, ◌||◌, [], ◌∷◌, length, map, Result, Ok}
use Rattle.std.specs.List.{All, flat_map, list_any}
use Rattle.std.specs.Str.{bytes_eq}
use Rattle.vx_dtype.specs.Types.{Bytes, Ty, Fields}
use Rattle.vx_dtype.specs.TypeRules.{field_type, has_name, no_name_twice}
use Rattle.vx_dtype.specs.Values.{Val}
use Rattle.vx_dtype.specs.Fits.{fits_but_for_faults}
use Rattle.vx_dtype.specs.Structs.{field_of, first_names}
use Rattle.vx_expr.specs.Trees.{Tree}
use Rattle.vx_semantics.specs.Typing.{Refusal, typed_of, names_in}
use Rattle.vx_semantics.specs.Meaning.{Slots, mean}
use Rattle.vx_semantics.specs.Breaks.{Cause, breaks_by}
use Rattle.vx_semantics.specs.Asked.{asked, column_in, asked_columns}
use Rattle.vx_semantics.specs.Nodes.{nodes_of, some_node}
use Rattle.vx_semantics.specs.Tables.{row_type}
use Rattle.vx_passes.specs.Annotating.{annotated, column_annotation}
use Rattle.vx_passes.specs.Splitting.{Partition, Split, split, partitions_type}
use Rattle.vx_laws_simplifying.specs.Asking.{breaks_along}
use Rattle.vx_laws_parts.specs.Preserved.{rowless, Simplifies}
use Rattle.vx_laws_parts.specs.Taking.{row_in_parts}
use Rattle.vx_laws_parts.specs.Recombining.{partitions_row}

-- where the row stands in an expression only straight below fields, it stands there only in parts by columns
abbrev pub ColumnsCoverRowless : Type 0
ColumnsCoverRowless = (t : Ty) (e : Tree) → rowless e ≡ true → row_in_parts (annotated bytes_eq (column_annotation t) e) e ≡ true

-- and over a type of one column wherever it stands, also by itself
abbrev pub OneColumnCovers : Type 0
OneColumnCovers = (t : Ty) (e : Tree) (c : Bytes) → names_in t ≡ c ∷ [] → row_in_parts (annotated bytes_eq (column_annotation t) e) e ≡ true

-- an expression split by its columns, under their own names
abbrev pub split_by_columns : Ty → Tree → Result (Split Bytes) Refusal
split_by_columns t e = split bytes_eq (λ c. c) (column_annotation t) t e

-- an expression over rows with these fields, and what simplifying by types makes of it, of fewer than 2 ^ 64 nodes
pub record Prepared (fs : Fields) (e : Tree) (u : Ty) (d : Tree) : Type 0 where
  pub simplifies : Simplifies fs e u d
  pub few : length (nodes_of d) < 2 ^ 64

-- and the latter split by its columns
pub record SplitByColumns (fs : Fields) (e : Tree) (u : Ty) (d : Tree) (s : Split Bytes) : Type 0 where
  pub prepared : Prepared fs e u d
  pub made : split_by_columns (row_type fs) d ≡ Ok s

-- it is not refused
abbrev pub SplitsByColumns : Type 0
SplitsByColumns = (fs : Fields) (e : Tree) (u : Ty) (d : Tree) → Prepared fs e u d → (s : Split Bytes) × (split_by_columns (row_type fs) d ≡ Ok s)

-- what the root of a split by columns means at what its partitions mean at a row
abbrev pub split_mean : Ty → Slots → Val → Split Bytes → Val
split_mean t slots row s =
    mean (partitions_type (λ c. c) s.partitions) slots (partitions_row (λ c. c) t slots row s.partitions) s.root_expression

-- at each row that fits but for faults, with any slots, it is what the expression means
abbrev pub ColumnsRecombine : Type 0
ColumnsRecombine =
    (fs : Fields) (slots : Slots) (row : Val) (e : Tree) (u : Ty) (d : Tree) (s : Split Bytes) → SplitByColumns fs e u d s
    → fits_but_for_faults row (row_type fs) ≡ true
    → split_mean (row_type fs) slots row s ≡ mean (row_type fs) slots row e

-- the partitions are those of the columns that it asks, one for each, in order of first use
abbrev pub OnePartitionPerColumn : Type 0
OnePartitionPerColumn =
    (fs : Fields) (e : Tree) (u : Ty) (d : Tree) (s : Split Bytes) → SplitByColumns fs e u d s
    → map (λ p. p.annotation) s.partitions ≡ first_names (flat_map column_in (asked (row_type fs) d []))

-- and these are the columns that the expression asks
abbrev pub PartitionsOfAskedColumns : Type 0
PartitionsOfAskedColumns =
    (fs : Fields) (e : Tree) (u : Ty) (d : Tree) (s : Split Bytes) (c : Bytes) → SplitByColumns fs e u d s
    → has_name c (map (λ p. p.annotation) s.partitions) ≡ has_name c (asked_columns (row_type fs) e)

-- a partition that asks its column alone, and has its type by the strict typing
abbrev pub AsksItsColumn : Fields → Partition Bytes → Type 0
AsksItsColumn fs p = (asked_columns (row_type fs) p.expression ≡ p.annotation ∷ []) × (typed_of (row_type fs) p.expression ≡ Ok p.ty)

-- each partition is one
abbrev pub PartitionsAskTheirColumn : Type 0
PartitionsAskTheirColumn =
    (fs : Fields) (e : Tree) (u : Ty) (d : Tree) (s : Split Bytes) → SplitByColumns fs e u d s
    → All (AsksItsColumn fs) s.partitions

-- a partition over other rows, in which its column has the same type; at such a row with the same value of the column
-- it means the same, and breaks by the same causes
abbrev pub StandsAlone : Fields → Fields → Partition Bytes → Type 0
StandsAlone fs gs p =
    field_type p.annotation gs ≡ field_type p.annotation fs
    → (typed_of (row_type gs) p.expression ≡ Ok p.ty)
    × ((slots : Slots) (row other : Val) → field_of p.annotation other ≡ field_of p.annotation row
    → (mean (row_type gs) slots other p.expression ≡ mean (row_type fs) slots row p.expression)
    × ((cause : Cause) → breaks_along cause (row_type gs) slots other p.expression [] ≡ breaks_along cause (row_type fs) slots row p.expression []))

-- over rows of any fields among which its column has the same type, and no name stands twice, each partition has the same type,
-- and at such a row it means, and breaks, as at each row of the table with the same value of the column
abbrev pub PartitionsStandAlone : Type 0
PartitionsStandAlone =
    (fs : Fields) (e : Tree) (u : Ty) (d : Tree) (s : Split Bytes) (gs : Fields) → SplitByColumns fs e u d s → no_name_twice (row_type gs) ≡ true
    → All (StandsAlone fs gs) s.partitions

-- whether a node that a partition asks breaks by a cause at a row, or one that the root asks at what the partitions mean there
abbrev pub split_breaks : Cause → Ty → Slots → Val → Split Bytes → Bool
split_breaks cause t slots row s =
    list_any (λ (p : Partition Bytes). breaks_along cause t slots row p.expression []) s.partitions
    || breaks_along cause (partitions_type (λ c. c) s.partitions) slots (partitions_row (λ c. c) t slots row s.partitions) s.root_expression []

-- at each row that fits but for faults, with any slots, such a node breaks by a cause exactly where some node of what was split does
abbrev pub PartitionsBreak : Type 0
PartitionsBreak =
    (fs : Fields) (slots : Slots) (row : Val) (e : Tree) (u : Ty) (d : Tree) (s : Split Bytes) (cause : Cause) → SplitByColumns fs e u d s
    → fits_but_for_faults row (row_type fs) ≡ true
    → split_breaks cause (row_type fs) slots row s ≡ some_node (breaks_by cause (row_type fs) slots row) d

-- and exactly where a node that the expression asks does
abbrev pub PartitionsBreakAsked : Type 0
PartitionsBreakAsked =
    (fs : Fields) (slots : Slots) (row : Val) (e : Tree) (u : Ty) (d : Tree) (s : Split Bytes) (cause : Cause) → SplitByColumns fs e u d s
    → fits_but_for_faults row (row_type fs) ≡ true
    → split_breaks cause (row_type fs) slots row s ≡ breaks_along cause (row_type fs) slots row e []
