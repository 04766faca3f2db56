use Rattle.vx_texts.proofs.PlaceLemmas.{place_within, text_there, null_there}
use Rattle.vx_texts.proofs.texts.Texts.text_at.Goals as goal

pub bit-requires : goal.bit-requires
bit-requires c = (place_within _ _ _ c.parts.ensures.texts c.args.i c.parts.ensures.tidy c.requires).0

pub returns-then-not-bit : goal.returns-then-not-bit
returns-then-not-bit c = null_there _ _ _ c.parts.ensures.texts c.args.i _ c.requires c.bit.ensures c.if-not-bit.true

pub returns : goal.returns
returns c = text_there _ _ _ c.parts.ensures.texts c.args.i _ _ c.requires c.bit.ensures c.if-not-bit.false c.text_at.ensures
