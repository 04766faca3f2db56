use Rattle.std.proofs.Common.{arith}
use Rattle.vx_words.proofs.LaneLemmas.{not_lanes, KeepFirst-put_chunk}
use Rattle.vx_words.proofs.logic.not_at.Goals as goal

pub returns-clause-before : goal.returns-clause-before
returns-clause-before g c = (KeepFirst-put_chunk _ _ _, KeepFirst-put_chunk _ _ _)

pub returns-clause-truths : goal.returns-clause-truths
returns-clause-truths g c = λ i lo hi. let a = c.args in
    not_lanes a.v.now a.b.now a.k g.row.N a.ov.now a.ob.now i c.type_inv.b (omega arith) (omega arith) (omega arith) (omega arith) lo hi
