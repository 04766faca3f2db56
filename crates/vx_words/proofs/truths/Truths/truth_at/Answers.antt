use Rattle.std.proofs.Common.{◌∙◌}
use Rattle.vx_words.proofs.TruthLemmas.{place_within, truth_seen}
use Rattle.vx_words.proofs.truths.Truths.truth_at.Goals as goal

pub truth_in-requires : goal.truth_in-requires
truth_in-requires c = place_within _ _ _ _ _ c.words.ensures.truths c.words.ensures.tidy c.requires

pub returns : goal.returns
returns c = c.truth_in.ensures ∙ truth_seen _ _ _ _ _ c.words.ensures.truths c.requires
