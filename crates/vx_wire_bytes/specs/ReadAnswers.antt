-- What reading a wire text answers, and why it refuses.
use Rattle.vx_dtype.specs.Types.{Bytes}
use Rattle.vx_wire_bytes.specs.Wires.{Wire, Spells}
use Rattle.vx_wire_bytes.specs.Openings.{IsTooDeep, IsTooMany}
use Rattle.vx_wire_bytes.specs.declared.errors.WireError.{WireError}
use Rattle.vx_wire_bytes.specs.declared.errors.WireError.TheVariants as errors

-- the bytes spell the tree, and meet neither limit
pub record IsRead (bytes : Bytes) (tree : Wire) : Type 0 where
  pub spelled : Spells bytes tree
  pub not_deep : ¬ (IsTooDeep bytes)
  pub not_many : ¬ (IsTooMany bytes)

-- the bytes spell no tree, and meet neither limit
pub record IsBadWire (bytes : Bytes) : Type 0 where
  pub no_tree : (tree : Wire) → ¬ (Spells bytes tree)
  pub not_deep : ¬ (IsTooDeep bytes)
  pub not_many : ¬ (IsTooMany bytes)

-- why bytes are refused; want of memory has no cause in the bytes, and the last two never come
abbrev pub IsRefused : Bytes → WireError → Type 0
IsRefused bytes errors.NoMemory = Unit {0}
IsRefused bytes errors.BadWire = IsBadWire bytes
IsRefused bytes errors.TooDeep = IsTooDeep bytes
IsRefused bytes errors.TooManyNodes = IsTooMany bytes
IsRefused bytes errors.TooLong = ⊥
IsRefused bytes errors.NotSerializable = ⊥
