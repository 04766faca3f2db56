use Rattle.std.proofs.Common.{◌≡◌, ◌<◌, ◌∙◌, sym, ap, true, length, option_copied, arith}
use Rattle.vx_dtype.specs.TypeRules.{nullability_of}
use Rattle.vx_dtype.specs.Like.{like3}
use Rattle.vx_words.specs.Words.{truth_val}
use Rattle.vx_column.specs.Columns.{row_at}
use Rattle.vx_column.specs.PlainValues.{text_or_null_fits}
use Rattle.vx_kernels.proofs.ConnectedTruths.{truths_fit_more, zip_truths_step}
use Rattle.vx_kernels.proofs.likes.Matching.truths.Goals as goal

pub loop-i-preserved : goal.loop-i-preserved
loop-i-preserved c =
    let rule = like3 c.args.self.now.negated c.args.self.now.case_insensitive in
    let within : c.loop-i.i < length c.args.c.now.rows = omega (arith, c.loop-i-test.true) in
    let left : text_or_null_fits c.args.self.now.left (option_copied c.text_at.result) ≡ true = ap (λ t. text_or_null_fits (nullability_of t) (option_copied c.text_at.result)) (sym c.requires.left) ∙ c.text_at.ensures.fit in
    let right : text_or_null_fits c.args.self.now.right (option_copied c.text_at-in-loop-i.result) ≡ true = ap (λ t. text_or_null_fits (nullability_of t) (option_copied c.text_at-in-loop-i.result)) (sym c.requires.right) ∙ c.text_at-in-loop-i.ensures.fit in
    let fit = c.in_ok-truth.ensures.fit _ _ left right in
    let value : truth_val c.in_ok-truth.truth ≡ rule (row_at c.args.c.now c.loop-i.i) (row_at c.args.pattern.now c.loop-i.i) = c.in_ok-truth.ensures.value ∙ (λ j. rule (c.text_at.ensures.value j) (c.text_at-in-loop-i.ensures.value j)) in
    (rw c.in_ok-push.ensures.items (truths_fit_more _ c.loop-i.truths.items _ c.loop-i.invariant.0 fit), zip_truths_step rule c.args.c.now c.args.pattern.now _ _ c.loop-i.i _ within c.requires.lengths c.in_ok-push.ensures.items value c.loop-i.invariant.1, c.in_ok-truth.ensures.last)
