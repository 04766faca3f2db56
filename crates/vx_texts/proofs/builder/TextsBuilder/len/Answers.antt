use Rattle.std.proofs.Common.{◌∙◌, sym}
use Rattle.vx_texts.proofs.PlaceLemmas.{length_seen}
use Rattle.vx_texts.proofs.builder.TextsBuilder.len.Goals as goal

pub returns : goal.returns
returns c = c.len.ensures ∙ sym (length_seen c.self.inside.valid.items c.self.inside.values c.args.self.now c.self.view_is)
