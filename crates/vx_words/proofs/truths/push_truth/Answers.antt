use Rattle.std.proofs.Common.{rules}
use Rattle.vx_words.proofs.TruthLemmas.{pushed_tidy, pushed_truths}
use Rattle.vx_words.proofs.truths.push_truth.Goals as goal

pub returns-clause-tidy : goal.returns-clause-tidy
returns-clause-tidy c = pushed_tidy _ _ _ _ _ c.args.truth c.requires (search rules) (search rules) (search rules) (search rules)

pub returns-clause-truths : goal.returns-clause-truths
returns-clause-truths c = pushed_truths _ _ _ _ _ c.args.truth c.requires (search rules) (search rules)
