-- Wire trees of expressions: what is written, and why nothing is.
use Rattle.std.specs.Prelude.{◌≡◌, true, length}
use Rattle.vx_expr.specs.Trees.{Tree, children_of}
use Rattle.vx_wire_bytes.specs.declared.errors.WireError.{WireError}
use Rattle.vx_wire_bytes.specs.declared.errors.WireError.TheVariants as errors
use Rattle.vx_wire.specs.Metadata.{HasMetadata, takes, IsSerializable, HasShortMetadata, IsNoEmptyMerge}
use Rattle.vx_wire.specs.Forms.{Everywhere}

-- a node whose metadata has a spelling, and which has the number of children that it takes unless it is a merge of nothing
pub record IsWritten (e : Tree) : Type 0 where
  pub metadata : HasMetadata e
  pub children : IsNoEmptyMerge e → takes e (length (children_of e)) ≡ true

-- why something isn't written: it isn't short; want of memory has no cause in it, and the others never come
abbrev pub IsUnwrittenLong : Type 0 → WireError → Type 0
IsUnwrittenLong Short errors.NoMemory = Unit {0}
IsUnwrittenLong Short errors.TooLong = ¬ Short
IsUnwrittenLong Short errors.BadWire = ⊥
IsUnwrittenLong Short errors.TooDeep = ⊥
IsUnwrittenLong Short errors.TooManyNodes = ⊥
IsUnwrittenLong Short errors.NotSerializable = ⊥

-- why an expression isn't written: a node of a kind that isn't, or a type that is too deep; else a text or a list that is too long
abbrev pub IsUnserialized : Tree → WireError → Type 0
IsUnserialized e errors.NoMemory = Unit {0}
IsUnserialized e errors.NotSerializable = ¬ (Everywhere IsSerializable e)
IsUnserialized e errors.TooLong = Everywhere IsSerializable e × ¬ (Everywhere HasShortMetadata e)
IsUnserialized e errors.BadWire = ⊥
IsUnserialized e errors.TooDeep = ⊥
IsUnserialized e errors.TooManyNodes = ⊥
