use Rattle.std.proofs.Common.{◌≤◌, sym, subst, length}
use Rattle.vx_semantics.specs.Tables.{ZoneStat}
use Rattle.vx_block_parts.proofs.RuleLemmas.{one_stat_more}
use Rattle.vx_block_parts.proofs.part_zones.stats_between.Goals as goal

pub stat_between-requires-clause-within : goal.stat_between-requires-clause-within
stat_between-requires-clause-within c =
    subst (λ (z : ZoneStat). c.args.up_to ≤ length z.values) (sym c.index-stats-i.is) (c.requires.within c.loop-i.i c.index-stats-i.result c.loop-i-test.true)

pub loop-i-preserved : goal.loop-i-preserved
loop-i-preserved c =
    rw c.in_ok-push.ensures.items
    (one_stat_more c.args.from c.args.up_to c.args.stats.now c.loop-i.within.items c.loop-i.i c.index-stats-i.result c.in_ok-stat_between.field-0 c.loop-i-test.true
    c.index-stats-i.is c.in_ok-stat_between.ensures c.loop-i.invariant)
