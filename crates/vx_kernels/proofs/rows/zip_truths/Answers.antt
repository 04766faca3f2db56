use Rattle.std.proofs.Common.{◌≡◌, ◌<◌, sym, ◌∙◌, length, arith}
use Rattle.vx_column.specs.Columns.{seen, row_at}
use Rattle.vx_kernels.proofs.ConnectedTruths.{truths_fit_more, zip_truths_step}
use Rattle.vx_kernels.proofs.rows.zip_truths.Goals as goal

pub at-requires-clause-left : goal.at-requires-clause-left
at-requires-clause-left g c = rw (← c.requires.left, c.get.ensures) c.value_at-left.ensures.fit

pub at-requires-clause-right : goal.at-requires-clause-right
at-requires-clause-right g c = rw (← c.requires.right, c.get-in-loop-i.ensures) c.value_at-right.ensures.fit

pub loop-i-preserved : goal.loop-i-preserved
loop-i-preserved g c =
    let within : c.loop-i.i < length c.args.l.now.rows = omega (arith, c.loop-i-test.true) in
    let left : seen (g.R.TruthRule.left c.args.rule.now) c.get.result.now ≡ row_at c.args.l.now c.loop-i.i = (λ j. seen (sym c.requires.left j) (c.get.ensures j)) ∙ c.value_at-left.ensures.value in
    let right : seen (g.R.TruthRule.right c.args.rule.now) c.get-in-loop-i.result.now ≡ row_at c.args.r.now c.loop-i.i = (λ j. seen (sym c.requires.right j) (c.get-in-loop-i.ensures j)) ∙ c.value_at-right.ensures.value in
    let value = c.at.ensures.value ∙ (λ j. g.R.TruthRule.rule c.args.rule.now (left j) (right j)) in
    (rw c.in_ok-push.ensures.items (truths_fit_more (g.R.TruthRule.nullability c.args.rule.now) c.loop-i.truths.items c.at.result c.loop-i.invariant.0 c.at.ensures.fit), zip_truths_step (g.R.TruthRule.rule c.args.rule.now) c.args.l.now c.args.r.now _ _ c.loop-i.i _ within c.requires.lengths c.in_ok-push.ensures.items value c.loop-i.invariant.1)
