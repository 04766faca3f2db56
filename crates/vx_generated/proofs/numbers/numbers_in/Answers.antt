use Rattle.std.proofs.Common.{◌*◌}
use Rattle.vx_laws_generated.specs.GeneratedTable.{number_at}
use Rattle.vx_generated.specs.GeneratedViews.{column_view}
use Rattle.vx_generated.proofs.NumberLemmas.{more-of_range}
use Rattle.vx_generated.proofs.numbers.numbers_in.Goals as goal

pub loop-i-preserved : goal.loop-i-preserved
loop-i-preserved c =
    more-of_range (number_at (column_view c.args.column)) (64 * c.args.block) c.loop-i.i c.loop-i.numbers.items c.push.new.self.items c.number_at.result
    c.in_ok-push.ensures.items c.loop-i.invariant c.number_at.ensures
