use Rattle.vx_wire_bytes.specs.Numbers.{piece_bytes}
use Rattle.vx_wire_bytes.specs.Fields.{IsText}
use Rattle.vx_wire.proofs.FieldLemmas.{text_free, none_there, some_behind}
use Rattle.vx_wire.proofs.metadata.name_in.Goals as goal

pub returns-in_default : goal.returns-in_default
returns-in_default c = none_there piece_bytes IsText c.args.metadata.now (rw c.in_default.is at c.in_ok-text.ensures)

pub returns-then-after-metadata : goal.returns-then-after-metadata
returns-then-after-metadata c = some_behind piece_bytes IsText text_free c.args.metadata.now _ c.in-Some.after (rw c.in-Some.is at c.in_ok-text.ensures) c.if-after-metadata.true
