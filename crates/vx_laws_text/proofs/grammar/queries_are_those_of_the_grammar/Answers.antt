use Rattle.vx_laws_text.proofs.SoundQueries.{read_is_query}
use Rattle.vx_laws_text.proofs.CompleteQueries.{query_is_read}
use Rattle.vx_laws_text.proofs.grammar.queries_are_those_of_the_grammar.Goals as goal

pub returns : goal.returns
returns c = record { read = read_is_query; query = query_is_read }
