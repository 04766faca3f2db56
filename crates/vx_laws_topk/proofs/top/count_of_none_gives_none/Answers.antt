use Rattle.vx_laws_topk.proofs.Finding.{count_of_none}
use Rattle.vx_laws_topk.proofs.top.count_of_none_gives_none.Goals as goal

pub returns : goal.returns
returns c = count_of_none
