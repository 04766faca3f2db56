use Rattle.std.proofs.Common.{sym}
use Rattle.vx_words.proofs.TruthLemmas.{length_seen}
use Rattle.vx_words.proofs.truths.Truths.len.Goals as goal

pub returns : goal.returns
returns c = sym (length_seen _ _ _ _ c.self.view_is)
