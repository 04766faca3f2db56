use Rattle.vx_laws_skipping.proofs.ExactLemmas.{scans_skip_exactly, text_scans_skip_exactly}
use Rattle.vx_laws_skipping.proofs.skipping.scans_skip_exactly.Goals as goal

pub returns-clause-exprs : goal.returns-clause-exprs
returns-clause-exprs c = scans_skip_exactly

pub returns-clause-texts : goal.returns-clause-texts
returns-clause-texts c = text_scans_skip_exactly
