use Rattle.vx_query.proofs.EndLemmas.{help_told, version_told}
use Rattle.vx_query.proofs.form_causes.help_and_version_are_told.Goals as goal

pub returns-clause-help : goal.returns-clause-help
returns-clause-help c = help_told

pub returns-clause-version : goal.returns-clause-version
returns-clause-version c = version_told
