-- For the checker: no public clause cites this. Expressions that can be written as bytes.
use Rattle.vx_expr.specs.Trees.{Tree}
use Rattle.vx_wire_bytes.specs.Wires.{HasShortParts}
use Rattle.vx_wire.specs.Forms.{wire_of, Everywhere}
use Rattle.vx_wire.specs.Metadata.{IsSerializable, HasShortMetadata}

-- an expression of which nothing stands in the way of its bytes
pub record IsWritable (e : Tree) : Type 0 where
  pub serializable : Everywhere IsSerializable e
  pub short : Everywhere HasShortMetadata e
  pub parts : HasShortParts (wire_of e)
