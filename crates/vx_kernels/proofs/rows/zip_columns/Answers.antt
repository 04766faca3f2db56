use Rattle.std.proofs.Common.{◌≡◌, ap, sym, ◌∙◌}
use Rattle.std.proofs.Math.ListN.{replicate}
use Rattle.vx_column.specs.Columns.{Column, seen}
use Rattle.vx_kernels.proofs.ConnectedTruths.{zip_constant_truth}
use Rattle.vx_kernels.proofs.rows.zip_columns.Goals as goal

pub returns-in-Some-Some-clause-rows : goal.returns-in-Some-Some-clause-rows
returns-in-Some-Some-clause-rows g c =
    let left : seen (g.R.TruthRule.left c.args.rule.now) c.in-Some-Some.x.now ≡ seen c.args.l.now.ty c.in-Some-Some.x.now = ap (λ t. seen t c.in-Some-Some.x.now) (sym c.requires.left) in
    let right : seen (g.R.TruthRule.right c.args.rule.now) c.in-Some-Some.y.now ≡ seen c.args.r.now.ty c.in-Some-Some.y.now = ap (λ t. seen t c.in-Some-Some.y.now) (sym c.requires.right) in
    let value = c.at-truth.ensures.value ∙ (λ j. g.R.TruthRule.rule c.args.rule.now (left j) (right j)) in
    ap (λ (r : Column). r.rows) c.of_constant.ensures ∙ ap (replicate c.len.result) (c.of_truth.ensures.value c.args.nullability) ∙ zip_constant_truth (g.R.TruthRule.rule c.args.rule.now) c.args.l.now c.args.r.now c.len.result c.at-truth.result _ _ c.len.ensures c.requires.lengths c.in-Some-Some.ensures.value c.in-Some-Some.ensures'.value value
