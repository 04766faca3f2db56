use Rattle.vx_laws_topk.proofs.Firsts as firsts
use Rattle.vx_laws_topk.proofs.top.bound_loses_none.Goals as goal

pub returns : goal.returns
returns c = firsts.bound_loses_none
