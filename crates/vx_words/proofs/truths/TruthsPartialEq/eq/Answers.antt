use Rattle.vx_words.proofs.ListLemmas.{truths_answer}
use Rattle.vx_words.proofs.truths.TruthsPartialEq.eq.Goals as goal

pub returns-clause-gives : goal.returns-clause-gives
returns-clause-gives c = truths_answer c.args.self.now c.args.other.now c.same_truths.result c.same_truths.ensures
