-- Why a tree isn't written.
use Rattle.vx_wire_bytes.specs.Wires.{Wire, HasShortParts}
use Rattle.vx_wire_bytes.specs.declared.errors.WireError.{WireError}
use Rattle.vx_wire_bytes.specs.declared.errors.WireError.TheVariants as errors

-- some id, metadata or list of children is too long; want of memory has no cause in the tree, and the others never come
abbrev pub IsUnwritten : Wire → WireError → Type 0
IsUnwritten tree errors.NoMemory = Unit {0}
IsUnwritten tree errors.TooLong = ¬ (HasShortParts tree)
IsUnwritten tree errors.BadWire = ⊥
IsUnwritten tree errors.TooDeep = ⊥
IsUnwritten tree errors.TooManyNodes = ⊥
IsUnwritten tree errors.NotSerializable = ⊥
