use Rattle.std.proofs.Common.{refl, ◌∙◌, ap, ℕ, List, ◌++◌, map}
use Rattle.vx_semantics.specs.Tables.{ZoneStat}
use Rattle.vx_zones.specs.Zoning.{broken_rule}
use Rattle.vx_zones.specs.ZoneViews.{stat_view}
use Rattle.vx_zones.specs.declared.zones.ZoneStat.{ZoneStat as Listed}
use Rattle.vx_laws_shell.specs.Folders.{stats_before}
use Rattle.vx_folder.specs.FolderAnswers.{gathered_zones, growing_view}
use Rattle.vx_folder.proofs.AddLemmas.{on_ok, zones_are}
use Rattle.vx_folder.proofs.RuleLemmas.{rules_before}
use Rattle.vx_folder.proofs.gathering.Gathered.add.Goals as goal

pub returns-clause-rules : goal.returns-clause-rules
returns-clause-rules c =
    let before = gathered_zones c.args.self.now in
    let zones = c.args.zones.now in
    let lengths = c.in_ok-extend_from_slice.ensures.items ∙ ap (λ (ns : List ℕ). c.args.self.now.lengths.items ++ ns) c.lengths.ensures.lengths in
    on_ok c.add_stats.result _ _ (λ grown own.
    let stats = grown ∙ ap (λ (zs : List ZoneStat). stats_before before.stats zs) (ap (λ (zs : List Listed). map stat_view zs) c.as_slice.ensures.value ∙ c.in_ok-stats.ensures) in
    let is = zones_are before zones c.args.self.now.columns c.extend_from_slice.new.self.items (map growing_view c.add_stats.new.growing.items) refl lengths stats in
    ap broken_rule is ∙ rules_before before zones c.requires own c.lengths.ensures.rules) c.add_stats.ensures
