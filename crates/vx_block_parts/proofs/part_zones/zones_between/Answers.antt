use Rattle.std.proofs.Common.{◌≡◌, ◌∙◌, ap, map, slice_range, rules}
use Rattle.std.proofs.lemmas.Result.{IfOk-weaker}
use Rattle.vx_block_parts.specs.Parts.{stat_between}
use Rattle.vx_block_parts.proofs.RuleLemmas.{stats_long, part_unrefused, part_made}
use Rattle.vx_block_parts.proofs.part_zones.zones_between.Goals as goal

pub stats_between-requires-clause-within : goal.stats_between-requires-clause-within
stats_between-requires-clause-within c =
    stats_long c.args.zones.now c.statistics.result.now c.args.up_to c.statistics.ensures.rules c.statistics.ensures.stats c.requires.within

pub made-requires : goal.made-requires
made-requires c =
    let columns : c.in_ok-columns.columns ≡ c.args.zones.now.columns = search rules in
    let lengths : c.in_ok-lengths.lengths.items ≡ slice_range c.args.zones.now.lengths c.args.from c.args.up_to = search rules in
    let each = c.in_ok-stats.ensures ∙ ap (map (stat_between c.args.from c.args.up_to)) c.statistics.ensures.stats in
    part_unrefused c.args.from c.args.up_to c.args.zones.now c.in_ok-columns.columns c.in_ok-lengths.lengths.items c.in_ok-stats.stats.items c.of_columns.result
    c.requires.order c.statistics.ensures.rules columns lengths each c.of_columns.ensures

pub returns : goal.returns
returns c =
    let columns : c.in_ok-columns.columns ≡ c.args.zones.now.columns = search rules in
    let lengths : c.in_ok-lengths.lengths.items ≡ slice_range c.args.zones.now.lengths c.args.from c.args.up_to = search rules in
    let each = c.in_ok-stats.ensures ∙ ap (map (stat_between c.args.from c.args.up_to)) c.statistics.ensures.stats in
    IfOk-weaker c.made.result _ _
    (λ made. part_made c.args.from c.args.up_to c.args.zones.now made c.in_ok-columns.columns c.in_ok-lengths.lengths.items c.in_ok-stats.stats.items c.of_columns.result
    c.requires.order columns lengths each c.of_columns.ensures) c.made.ensures
