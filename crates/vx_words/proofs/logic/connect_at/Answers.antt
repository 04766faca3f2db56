use Rattle.std.proofs.Common.{arith}
use Rattle.vx_words.proofs.LaneLemmas.{and_lanes, or_lanes, KeepFirst-put_chunk}
use Rattle.vx_words.proofs.logic.connect_at.Goals as goal

pub returns-in-And-clause-before : goal.returns-in-And-clause-before
returns-in-And-clause-before g c = (KeepFirst-put_chunk _ _ _, KeepFirst-put_chunk _ _ _)

pub returns-in-And-clause-truths : goal.returns-in-And-clause-truths
returns-in-And-clause-truths g c = λ i lo hi. let a = c.args in
    rw c.in-And.is
    (and_lanes a.lv.now a.lb.now a.rv.now a.rb.now a.k g.row.N a.ov.now a.ob.now i c.type_inv.lb c.type_inv.rb
    (omega arith) (omega arith) (omega arith) (omega arith) (omega arith) (omega arith) lo hi)

pub returns-in-Or-clause-before : goal.returns-in-Or-clause-before
returns-in-Or-clause-before g c = (KeepFirst-put_chunk _ _ _, KeepFirst-put_chunk _ _ _)

pub returns-in-Or-clause-truths : goal.returns-in-Or-clause-truths
returns-in-Or-clause-truths g c = λ i lo hi. let a = c.args in
    rw c.in-Or.is
    (or_lanes a.lv.now a.lb.now a.rv.now a.rb.now a.k g.row.N a.ov.now a.ob.now i
    (omega arith) (omega arith) (omega arith) (omega arith) (omega arith) (omega arith) lo hi)
