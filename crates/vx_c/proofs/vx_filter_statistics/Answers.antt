use Rattle.vx_calls.specs.Answers.{answer_told, told_bytes}
use Rattle.vx_c.proofs.vx_filter_statistics.Goals as goal

pub returns : goal.returns
returns c = record {
  told = answer_told c.answer_of-told.result;
  is_told = record { answer = told_bytes c.filter_statistics-called.result; answered = c.filter_statistics-called.ensures; tells = c.answer_of-told.ensures };
  given = c.give.ensures;
}
