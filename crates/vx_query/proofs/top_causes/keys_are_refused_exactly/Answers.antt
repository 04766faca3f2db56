use Rattle.vx_query.specs.TopWords.{unknown_key, bad_key}
use Rattle.vx_query.proofs.TopCauseLemmas.{key_row}
use Rattle.vx_query.proofs.top_causes.keys_are_refused_exactly.Goals as goal

pub returns-clause-unknown : goal.returns-clause-unknown
returns-clause-unknown c = key_row unknown_key

pub returns-clause-bad : goal.returns-clause-bad
returns-clause-bad c = key_row bad_key
