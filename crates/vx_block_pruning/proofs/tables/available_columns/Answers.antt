use Rattle.std.proofs.Common.{◌+◌, ◌≤◌, ◌∙◌, sym, subst, length, false}
use Rattle.vx_semantics.specs.Tables.{ZoneStat}
use Rattle.vx_block_pruning.specs.StatisticColumns.{column_of}
use Rattle.vx_block_pruning.proofs.AvailableLemmas.{flagged-kept, flagged-left}
use Rattle.vx_block_pruning.proofs.tables.available_columns.Goals as goal
use Rattle.vx_block_pruning.proofs.tables.available_columns.Goals.{then-flags-i+in_ok-column_of+in_ok-push, else-flags-i}

pub column_of-requires-clause-within : goal.column_of-requires-clause-within
column_of-requires-clause-within c =
    subst (λ (z : ZoneStat). c.args.first + c.args.count ≤ length z.values) (sym c.index-stats-i.is) (c.requires.values c.loop-i.i c.index-stats-i.result c.loop-i-test.true)

pub loop-i-preserved : goal.loop-i-preserved
loop-i-preserved c = elim c.if-flags-i.branch [
  | then-flags-i+in_ok-column_of+in_ok-push w ↦
      rw (w.columns-is, w.in_ok-push.ensures.items, w.in_ok-column_of.ensures)
      (flagged-kept (column_of c.args.first c.args.count) c.args.flags.now c.args.stats.now c.loop-i.i c.index-stats-i.result false c.loop-i.columns.items c.requires.many
      c.loop-i-test.true c.index-stats-i.is w.if-flags-i.true
      ∙ c.loop-i.invariant)
  | else-flags-i w ↦
      rw w.columns-is
      (flagged-left (column_of c.args.first c.args.count) c.args.flags.now c.args.stats.now c.loop-i.i c.index-stats-i.result false c.loop-i.columns.items c.requires.many
      c.loop-i-test.true c.index-stats-i.is w.if-flags-i.false
      ∙ c.loop-i.invariant)
]
