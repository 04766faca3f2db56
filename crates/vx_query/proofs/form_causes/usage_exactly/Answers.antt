use Rattle.vx_query.proofs.FormLemmas.{unformed, misuses}
use Rattle.vx_query.proofs.form_causes.usage_exactly.Goals as goal

pub returns-clause-only : goal.returns-clause-only
returns-clause-only c = unformed

pub returns-clause-always : goal.returns-clause-always
returns-clause-always c = misuses
