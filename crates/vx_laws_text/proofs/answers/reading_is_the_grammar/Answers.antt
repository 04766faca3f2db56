use Rattle.vx_laws_text.proofs.Answering.{read_is_answer, answer_is_read}
use Rattle.vx_laws_text.proofs.answers.reading_is_the_grammar.Goals as goal

pub returns : goal.returns
returns c = record { read = read_is_answer; only = answer_is_read }
