use Rattle.std.proofs.Common.{◌≡◌, ◌∙◌, ap, subst, List, map}
use Rattle.std.specs.Prelude.{IfOk}
use Rattle.vx_dtype.specs.Types.{Bytes}
use Rattle.vx_passes.specs.Falsifying.{Question}
use Rattle.vx_passes.specs.PruningTables.{pruning_over}
use Rattle.vx_prune.specs.Required.{PrunesBy}
use Rattle.vx_laws_stats.specs.BuiltLaws.{path_and_stat}
use Rattle.vx_calls.specs.Statistics.{needed_among, paths_of, possible_statistics}
use Rattle.vx_calls.specs.Steps.{needed_view}
use Rattle.vx_calls.proofs.StatisticLemmas.{paths_stand}
use Rattle.vx_calls.proofs.statistics.needed_statistics.Goals as goal

pub returns : goal.returns
returns c =
    let typed = c.args.typed.now in
    let possible = possible_statistics typed.zones.columns in
    let told = pruning_over (paths_of possible) typed.tree in
    let answer = c.in_ok-pruning.pruning in
    let paths = c.in_ok-available.ensures ∙ paths_stand c.in_ok-possible.possible.stats ∙ ap paths_of c.in_ok-possible.ensures in
    let prunes : PrunesBy told answer = subst (λ (ps : List (List Bytes)). PrunesBy (pruning_over ps typed.tree) answer) paths c.in_ok-pruning.ensures in
    let own : map path_and_stat c.statistics.result.now ≡ possible = ap (map path_and_stat) c.statistics.ensures.stats ∙ c.in_ok-possible.ensures in
    subst (λ (qs : List Question). IfOk c.needed_among.result (λ needed. map needed_view needed.items ≡ needed_among qs told)) own
    (c.needed_among.ensures told prunes)
