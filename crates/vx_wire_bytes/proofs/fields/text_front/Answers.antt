use Rattle.vx_wire_bytes.proofs.HeadLemmas.{text_front_ok, text_front_err}
use Rattle.vx_wire_bytes.proofs.fields.text_front.Goals as goal

pub returns-in-Ok : goal.returns-in-Ok
returns-in-Ok c = text_front_ok _ _ _ _ c.in_ok-piece.ensures c.in-Ok.ensures.cases.0 c.in-Ok.ensures.cases.1

pub returns-in-Err : goal.returns-in-Err
returns-in-Err c = text_front_err _ _ _ c.in_ok-piece.ensures c.in-Err.ensures.cases.0
