use Rattle.std.proofs.lemmas.Result.{IfOk-weaker}
use Rattle.vx_prune.specs.Required.{Requires}
use Rattle.vx_passes.specs.Catalogs.{every_statistic}
use Rattle.vx_passes.specs.PruningTables.{answered_once}
use Rattle.std.proofs.Common.{[]}
use Rattle.vx_prune.proofs.RequiredLemmas.{requires_every}
use Rattle.vx_prune.proofs.catalogs.TrackingStatsCatalog.into_required.Goals as goal

pub returns : goal.returns
returns c =
    IfOk-weaker c.required_by.result (Requires c.args.self.asked.items) (Requires (answered_once every_statistic [] c.args.self.asked.items))
    (requires_every c.args.self.asked.items) c.required_by.ensures
