use Rattle.vx_dtype.specs.TypeViews.{type_view}
use Rattle.vx_wire_bytes.specs.TypeForms.{type_bytes, IsType}
use Rattle.vx_wire.proofs.FieldLemmas.{type_free, some_behind}
use Rattle.vx_wire.proofs.metadata.type_in.Goals as goal

pub returns-then-after-metadata : goal.returns-then-after-metadata
returns-then-after-metadata c = some_behind type_bytes IsType type_free c.args.metadata.now (type_view c.in-Some.dtype) c.in-Some.after (rw c.in-Some.is at c.in_ok-dtype.ensures) c.if-after-metadata.true
