use Rattle.vx_topk.proofs.TopLawLemmas.{breaking_tops}
use Rattle.vx_topk.proofs.laws.tops_break_where_a_phase_breaks.Goals as goal

pub returns : goal.returns
returns c = breaking_tops
