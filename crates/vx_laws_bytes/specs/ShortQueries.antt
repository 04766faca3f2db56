-- No part of what a query names is too long for the wire form.
use Rattle.std.specs.Prelude.{◌≡◌, Ok}
use Rattle.vx_dtype.specs.Types.{Bytes}
use Rattle.vx_expr.specs.Trees.{Tree}
use Rattle.vx_wire_bytes.specs.Wires.{HasShortParts}
use Rattle.vx_wire.specs.Forms.{wire_of, Everywhere}
use Rattle.vx_wire.specs.Metadata.{HasShortMetadata}
use Rattle.vx_text.specs.Reading.{reading_of}

-- the names, the texts and the lists of an expression have numbers that have a spelling, and so have the metadata of its nodes and their lists of children
pub record IsShortTree (e : Tree) : Type 0 where
  pub metadata : Everywhere HasShortMetadata e
  pub parts : HasShortParts (wire_of e)

-- what a query names is such an expression
abbrev pub QueriesAreShort : Type 0
QueriesAreShort = (query : Bytes) (e : Tree) → reading_of query ≡ Ok e → IsShortTree e
