use Rattle.vx_query.proofs.EndLemmas.{no_digits_told, refused_word_told, refused_query_told, queries_no_digits}
use Rattle.vx_query.proofs.form_causes.refused_words_have_their_causes.Goals as goal

pub returns-clause-no_digits : goal.returns-clause-no_digits
returns-clause-no_digits c = no_digits_told

pub returns-clause-no_expression : goal.returns-clause-no_expression
returns-clause-no_expression c = refused_word_told

pub returns-clause-no_bytes : goal.returns-clause-no_bytes
returns-clause-no_bytes c = refused_query_told

pub returns-clause-no_third : goal.returns-clause-no_third
returns-clause-no_third c = queries_no_digits
