-- Lines that are written in pieces.
use Rattle.std.specs.Prelude.{◌≡◌, ◌++◌, Option}
use Rattle.vx_dtype.specs.Types.{Bytes}
use Rattle.vx_io.specs.Ends.{Added}

-- the first bytes of lines were written, perhaps none, and these are left
abbrev pub WritesFirst : Option Bytes → Option Bytes → Bytes → Bytes → Type 0
WritesFirst before after lines left = (written : Bytes) × Added before after written × (lines ≡ written ++ left)
