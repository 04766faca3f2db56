use Rattle.vx_query.proofs.CauseLemmas.{was_explained, explained_as_told}
use Rattle.vx_query.proofs.form_causes.explanations_are_of_the_request.Goals as goal

pub returns-clause-explained : goal.returns-clause-explained
returns-clause-explained c = was_explained

pub returns-clause-told : goal.returns-clause-told
returns-clause-told c = explained_as_told c.wire_laws.ensures
