use Rattle.vx_arrays.proofs.ToldLemmas.{columns_asked}
use Rattle.vx_arrays.proofs.laws.columns_are_as_asked.Goals as goal

pub returns : goal.returns
returns c = λ ts rows body buffers cs h. columns_asked ts rows body buffers 0 cs h
