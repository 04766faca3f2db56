use Rattle.vx_topk.proofs.TopLawLemmas.{unbroken_tops}
use Rattle.vx_topk.proofs.laws.unbroken_tops_report.Goals as goal

pub returns : goal.returns
returns c = unbroken_tops
