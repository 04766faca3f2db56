use Rattle.vx_query.proofs.FileCauseLemmas.{was_unfiled, none_unscanned}
use Rattle.vx_query.proofs.file_causes.refused_files_have_their_causes.Goals as goal

pub returns-clause-refused : goal.returns-clause-refused
returns-clause-refused c = was_unfiled

pub returns-clause-no_fourth : goal.returns-clause-no_fourth
returns-clause-no_fourth c = none_unscanned
