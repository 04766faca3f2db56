use Rattle.std.proofs.Common.{◌∙◌, codes}
use Rattle.std.specs.String.{string_bytes}
use Rattle.vx_laws_explaining.specs.ExplainedJson.{commas}
use Rattle.vx_explaining.proofs.TextLemmas.{joined}
use Rattle.vx_explaining.proofs.json.commas.Goals as goal

pub returns : goal.returns
unfolding commas
returns c = c.in_ok-join.ensures.ok ∙ joined string_bytes (codes ",") c.args.texts.now
