use Rattle.std.proofs.Common.{ap, ◌∙◌, ℕ, map}
use Rattle.std.specs.Prelude.{Ok}
use Rattle.std.specs.BTreeMap.{values}
use Rattle.std.proofs.lemmas.Iterator.{items_from_collect}
use Rattle.std.proofs.lemmas.Iterator.Consumers.{YieldsList-from_rest}
use Rattle.vx_dtype.specs.RawViews.{raw_view}
use Rattle.vx_topk.proofs.HoldLemmas.{map-twice}
use Rattle.vx_topk.proofs.first_rows.FirstRows.into_values.Goals as goal

pub returns : goal.returns
returns c =
    ap (map raw_view) (items_from_collect {E = ℕ} (Ok c.in_ok-collect.field-0) c.in_ok-collect.ensures.ran (YieldsList-from_rest (values c.args.self.rows) c.into_values.ensures.rest))
    ∙ map-twice c.args.self.rows.entries
