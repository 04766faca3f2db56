use Rattle.vx_dtype.specs.TypeViews.{type_view}
use Rattle.vx_dtype.specs.RawViews.{raw_view}
use Rattle.vx_wire.proofs.LiteralLemmas.{no_value, value_behind}
use Rattle.vx_wire.proofs.metadata.literal_in.Goals as goal

pub returns-in_default-2 : goal.returns-in_default-2
returns-in_default-2 c =
    no_value c.args.metadata.now (type_view c.in-Some.dtype) c.in-Some.at (rw c.in-Some.is at c.in_ok-dtype.ensures) (rw c.in_default-2.is at c.in_ok-value.ensures)

pub returns-then-after-metadata : goal.returns-then-after-metadata
returns-then-after-metadata c =
    value_behind c.args.metadata.now (type_view c.in-Some.dtype) c.in-Some.at (raw_view c.in-Some-2.value) c.in-Some-2.after (rw c.in-Some.is at c.in_ok-dtype.ensures) (rw c.in-Some-2.is at c.in_ok-value.ensures) c.if-after-metadata.true
