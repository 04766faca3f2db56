use Rattle.std.proofs.Common.{refl, arith}
use Rattle.std.proofs.lemmas.List.{take_all}
use Rattle.vx_column.proofs.RowLemmas.{map_rows_step, fits_at, values_fit_more}
use Rattle.vx_column.proofs.rows.map_values.Goals as goal

pub at-requires : goal.at-requires
at-requires g c = fits_at _ _ c.loop-i.i _ c.requires c.loop-i-test.true c.index-values-i.is

pub loop-i-preserved : goal.loop-i-preserved
loop-i-preserved g c =
    let fit = values_fit_more _ _ _ c.loop-i.invariant.0 c.in_ok-at.ensures.fit in
    (rw c.in_ok-push.ensures.items fit, map_rows_step _ _ _ c.args.values.now _ _ c.loop-i.i _ _ c.loop-i-test.true c.index-values-i.is c.in_ok-push.ensures.items c.in_ok-at.ensures.value c.loop-i.invariant.1)

pub returns-clause-values : goal.returns-clause-values
returns-clause-values g c =
    rw c.loop-i.invariant.1 (rw (take_all c.loop-i.i c.args.values.now (omega arith)) refl)
