use Rattle.vx_query.proofs.NumberWordLemmas.{words_tell_counts}
use Rattle.vx_query.proofs.number_words.words_tell_counts.Goals as goal

pub returns : goal.returns
returns c = words_tell_counts
