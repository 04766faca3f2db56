use Rattle.std.proofs.Common.{◌∙◌, sym, ap}
use Rattle.vx_texts.specs.Texts.{byte_total}
use Rattle.vx_texts.proofs.builder.TextsBuilder.bytes_len.Goals as goal

pub returns-clause-total : goal.returns-clause-total
returns-clause-total c = c.bytes_len.ensures.total ∙ sym c.self.invariant.1 ∙ ap byte_total c.self.view_is
