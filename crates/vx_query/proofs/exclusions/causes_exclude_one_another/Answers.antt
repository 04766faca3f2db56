use Rattle.vx_query.proofs.ExclusionLemmas.{inputs_mean_one, words_mean_one, queries_mean_one}
use Rattle.vx_query.proofs.KeyLemmas.{keys_mean_one}
use Rattle.vx_query.proofs.FileCauseLemmas.{tables_mean_one}
use Rattle.vx_query.proofs.exclusions.causes_exclude_one_another.Goals as goal

pub returns-clause-inputs : goal.returns-clause-inputs
returns-clause-inputs c = inputs_mean_one c.wire_laws.ensures

pub returns-clause-words : goal.returns-clause-words
returns-clause-words c = words_mean_one

pub returns-clause-queries : goal.returns-clause-queries
returns-clause-queries c = queries_mean_one

pub returns-clause-keys : goal.returns-clause-keys
returns-clause-keys c = keys_mean_one c.wire_laws.ensures

pub returns-clause-tables : goal.returns-clause-tables
returns-clause-tables c = tables_mean_one c.files_are_short.ensures
