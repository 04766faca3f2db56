use Rattle.vx_words.proofs.TruthLemmas.{length_seen}
use Rattle.vx_words.proofs.truths.Truths.words.Goals as goal

pub returns-clause-truths : goal.returns-clause-truths
returns-clause-truths c =
    rw (c.as_slice.ensures.value, c.as_slice-2.ensures.value, length_seen _ _ _ _ c.self.view_is) c.self.view_is

pub returns-clause-tidy : goal.returns-clause-tidy
returns-clause-tidy c =
    rw (c.as_slice.ensures.value, c.as_slice-2.ensures.value, length_seen _ _ _ _ c.self.view_is) c.self.invariant
