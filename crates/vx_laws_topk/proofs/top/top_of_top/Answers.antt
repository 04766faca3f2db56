use Rattle.vx_laws_topk.proofs.Firsts as firsts
use Rattle.vx_laws_topk.proofs.top.top_of_top.Goals as goal

pub returns : goal.returns
returns c = firsts.top_of_top
