-- Filters by their wire bytes over the columns of a schema: strictly typed booleans.
use Rattle.std.specs.Prelude.{◌≡◌, false, Ok, Err}
use Rattle.vx_dtype.specs.Types.{Bytes, Ty, Fields}
use Rattle.vx_dtype.specs.TypeRules.{is_bool_ty}
use Rattle.vx_expr.specs.Trees.{Tree}
use Rattle.vx_semantics.specs.Tables.{row_type}
use Rattle.vx_semantics.specs.Typing.{Refusal, typed_of, not_struct, nullable_select, unknown_field, duplicate_field, type_mismatch}
use Rattle.vx_laws_pruning.specs.PruningTypes.{IsBooleanOver}
use Rattle.vx_wire_bytes.specs.ReadAnswers.{IsRefused}
use Rattle.vx_wire_bytes.specs.declared.errors.WireError.{WireError}
use Rattle.vx_wire_bytes.specs.declared.errors.WireError.TheVariants as wires
use Rattle.vx_wire.specs.Encodings.{is_default_kind}
use Rattle.vx_wire.specs.declared.errors.BuildError.{BuildError}
use Rattle.vx_wire.specs.declared.errors.BuildError.TheVariants as builds
use Rattle.vx_scan.specs.Texts.{SpellsTree, SpellsUnbuilt}
use Rattle.vx_calls.specs.Schemas.{columns_told, OverSchema}
use Rattle.vx_calls.specs.declared.errors.CallError.{CallError}
use Rattle.vx_calls.specs.declared.errors.CallError.TheVariants as errors

-- bytes are a filter over the columns of a schema: they spell an expression of the kinds that are built by default, and it is strictly typed over the
-- columns, a boolean
pub record IsFilter (schema filter : Bytes) (columns : Fields) (tree : Tree) : Type 0 where
  pub told : columns_told schema ≡ Ok columns
  pub spelled : SpellsTree is_default_kind filter tree
  pub typed : IsBooleanOver (row_type columns) tree

-- bytes are a filter over the columns of a schema of which this holds
abbrev pub OverFilter : Bytes → Bytes → (Fields → Tree → Type 0) → Type 0
OverFilter schema filter Holds = (columns : Fields) × (tree : Tree) × IsFilter schema filter columns tree × Holds columns tree

-- bytes are refused as a wire text, over the columns of a schema; they spell a wire tree that builds nothing; they spell an expression that has no type
abbrev pub IsUnread : Bytes → Bytes → WireError → Type 0
IsUnread schema filter why = OverSchema schema (λ columns. IsRefused filter why)

abbrev pub IsUnbuiltFilter : Bytes → Bytes → BuildError → Type 0
IsUnbuiltFilter schema filter why = OverSchema schema (λ columns. SpellsUnbuilt is_default_kind filter why)

abbrev pub IsUntyped : Bytes → Bytes → Refusal → Type 0
IsUntyped schema filter why =
    OverSchema schema (λ columns. (tree : Tree) × SpellsTree is_default_kind filter tree × (typed_of (row_type columns) tree ≡ Err why))

-- bytes spell an expression of another type
abbrev pub IsNoBoolean : Bytes → Bytes → Type 0
IsNoBoolean schema filter =
    OverSchema schema (λ columns. (tree : Tree) × SpellsTree is_default_kind filter tree
    × ((u : Ty) × (typed_of (row_type columns) tree ≡ Ok u) × (is_bool_ty u ≡ false)))

-- why bytes are no filter over the columns of a schema: of the schema, of the bytes, of the expression that they spell; want of memory at any time
abbrev pub IsFilterRefused : Bytes → Bytes → CallError → Type 0
IsFilterRefused schema filter errors.NoMemory = Unit {0}
IsFilterRefused schema filter (errors.Schema refusal) = columns_told schema ≡ Err refusal
IsFilterRefused schema filter errors.BadWire = IsUnread schema filter wires.BadWire
IsFilterRefused schema filter errors.TooDeep = IsUnread schema filter wires.TooDeep
IsFilterRefused schema filter errors.TooManyNodes = IsUnread schema filter wires.TooManyNodes
IsFilterRefused schema filter errors.UnknownExpr = IsUnbuiltFilter schema filter builds.UnknownExpr
IsFilterRefused schema filter errors.BadMetadata = IsUnbuiltFilter schema filter builds.BadMetadata
IsFilterRefused schema filter errors.WrongChildren = IsUnbuiltFilter schema filter builds.WrongChildren
IsFilterRefused schema filter errors.NotStruct = IsUntyped schema filter not_struct
IsFilterRefused schema filter errors.NullableSelect = IsUntyped schema filter nullable_select
IsFilterRefused schema filter errors.UnknownField = IsUntyped schema filter unknown_field
IsFilterRefused schema filter errors.DuplicateField = IsUntyped schema filter duplicate_field
IsFilterRefused schema filter errors.TypeMismatch = IsUntyped schema filter type_mismatch
IsFilterRefused schema filter errors.FilterNotBool = IsNoBoolean schema filter
IsFilterRefused schema filter _ = ⊥
