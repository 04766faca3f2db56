use Rattle.std.proofs.Common.{rules}
use Rattle.vx_words.proofs.TruthLemmas.{repeated_tidy, repeated_truths}
use Rattle.vx_words.proofs.truths.Truths.repeated.Goals as goal

pub of_words-requires : goal.of_words-requires
of_words-requires c = repeated_tidy _ _ _ c.args.truth (search rules) (search rules) (search rules) (search rules)

pub returns : goal.returns
returns c =
    rw c.of_words.ensures
    (repeated_truths c.in_ok-valid.valid.items c.in_ok-values.values.items c.args.len c.args.truth (search rules) (search rules))
