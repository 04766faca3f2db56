use Rattle.std.proofs.Common.{subst, List}
use Rattle.std.specs.Prelude.{IfOk}
use Rattle.vx_dtype.specs.Types.{Bytes}
use Rattle.vx_passes.specs.PruningTables.{pruning_over}
use Rattle.vx_prune.specs.Required.{PrunesBy}
use Rattle.vx_semantics.specs.Tables.{ZoneStat}
use Rattle.vx_laws_explaining.specs.Explained.{pruning_of}
use Rattle.vx_explaining.specs.ExplainedParts.{HoldsPruning}
use Rattle.vx_explaining.proofs.deciders.pruned_over.Goals as goal

pub returns : goal.returns
returns c =
    let zones = c.args.zones.now in
    let f = c.args.filter.now in
    let answer = c.in_ok-pruning.pruning in
    let prunes : PrunesBy (pruning_of zones f) answer =
    subst (λ (paths : List (List Bytes)). PrunesBy (pruning_over paths f) answer) c.in_ok-available.ensures c.in_ok-pruning.ensures in
    subst (λ (zs : List ZoneStat). IfOk c.pruned_with.result (HoldsPruning zs (pruning_of zones f))) c.statistics.ensures.stats
    (c.pruned_with.ensures (pruning_of zones f) prunes)
