use Rattle.std.proofs.Common.{length, ◌∙◌, sym, ap}
use Rattle.vx_texts.proofs.PlaceLemmas.{length_seen, few_seen}
use Rattle.vx_texts.proofs.texts.Texts.len.Goals as goal

pub returns-clause-count : goal.returns-clause-count
returns-clause-count c =
    c.len.ensures ∙ ap length c.deref.ensures ∙ sym (length_seen c.self.inside.valid.items c.self.inside.values.value c.args.self.now c.self.view_is)

pub returns-clause-fitting : goal.returns-clause-fitting
returns-clause-fitting c = few_seen c.self.inside.valid.items c.self.inside.values.value c.args.self.now c.self.view_is c.self.invariant
