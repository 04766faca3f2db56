-- Why a node alone has no metadata in the wire form.
use Rattle.vx_expr.specs.Trees.{Tree}
use Rattle.vx_wire_bytes.specs.declared.errors.WireError.{WireError}
use Rattle.vx_wire_bytes.specs.declared.errors.WireError.TheVariants as errors
use Rattle.vx_wire.specs.Metadata.{IsSerializable, HasShortMetadata}

-- why a node has no metadata, whatever stands below it: its kind isn't written, or a type of its own is too deep; else a text or a list of its
-- own is too long; want of memory has no cause in it, and the others never come
abbrev pub IsNodeUnserialized : Tree → WireError → Type 0
IsNodeUnserialized e errors.NoMemory = Unit {0}
IsNodeUnserialized e errors.NotSerializable = ¬ (IsSerializable e)
IsNodeUnserialized e errors.TooLong = IsSerializable e × ¬ (HasShortMetadata e)
IsNodeUnserialized e errors.BadWire = ⊥
IsNodeUnserialized e errors.TooDeep = ⊥
IsNodeUnserialized e errors.TooManyNodes = ⊥
