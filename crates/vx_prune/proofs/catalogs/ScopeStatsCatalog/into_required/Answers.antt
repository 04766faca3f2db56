use Rattle.std.proofs.Common.{[]}
use Rattle.std.proofs.lemmas.Result.{IfOk-weaker}
use Rattle.vx_prune.specs.Required.{Requires}
use Rattle.vx_passes.specs.Catalogs.{statistics_among}
use Rattle.vx_passes.specs.PruningTables.{answered_once}
use Rattle.vx_prune.proofs.RequiredLemmas.{requires_available}
use Rattle.vx_prune.proofs.catalogs.ScopeStatsCatalog.into_required.Goals as goal

pub returns : goal.returns
returns c =
    let members = c.args.self.available in
    IfOk-weaker c.required_by.result (Requires c.in_ok-answered.answered.items) (Requires (answered_once (statistics_among members) [] c.args.self.asked.items))
    (requires_available members c.args.self.asked.items c.in_ok-answered.answered.items c.in_ok-answered.ensures) c.required_by.ensures
