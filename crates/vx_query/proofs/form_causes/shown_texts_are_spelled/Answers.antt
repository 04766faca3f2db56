use Rattle.vx_query.proofs.WordLemmas.{was_shown}
use Rattle.vx_query.proofs.form_causes.shown_texts_are_spelled.Goals as goal

pub returns : goal.returns
returns c = was_shown
