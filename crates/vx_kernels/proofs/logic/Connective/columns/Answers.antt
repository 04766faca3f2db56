use Rattle.std.proofs.Common.{◌≡◌, true, ap, ◌∙◌}
use Rattle.std.proofs.Math.ListN.{replicate}
use Rattle.vx_dtype.specs.TypeRules.{nullability_of}
use Rattle.vx_dtype.specs.RawViews.{raw_view}
use Rattle.vx_words.specs.Words.{truth_val}
use Rattle.vx_column.specs.RawParts.{truth_fits}
use Rattle.vx_column.specs.Columns.{Column, seen}
use Rattle.vx_column.specs.ColumnParts.{truths_fit}
use Rattle.vx_kernels.specs.Connectives.{connected3}
use Rattle.vx_column.proofs.TruthLemmas.{truth_seen, truth_fits_seen}
use Rattle.vx_kernels.proofs.ConnectedTruths.{zip_constant_truth, connected_fit}
use Rattle.vx_kernels.proofs.logic.Connective.columns.Goals as goal

pub of_constant-requires-clause-fit : goal.of_constant-requires-clause-fit
of_constant-requires-clause-fit c =
    let n = nullability_of c.args.l.now.ty in
    let m = nullability_of c.args.r.now.ty in
    let left : truth_fits (nullability_of c.args.l.now.ty) c.truth_of.result ≡ true = ap (truth_fits (nullability_of c.args.l.now.ty)) c.truth_of.ensures ∙ truth_fits_seen c.args.l.now.ty (raw_view c.in-Some-Some.x.now) c.requires.left c.in-Some-Some.ensures.fit in
    let right : truth_fits (nullability_of c.args.r.now.ty) c.truth_of-in-Some-Some.result ≡ true = ap (truth_fits (nullability_of c.args.r.now.ty)) c.truth_of-in-Some-Some.ensures ∙ truth_fits_seen c.args.r.now.ty (raw_view c.in-Some-Some.y.now) c.requires.right c.in-Some-Some.ensures'.fit in
    c.of_truth.ensures.fit c.union_of-nullability.result (ap (λ k. truth_fits k c.truth-truth.result) c.union_of-nullability.ensures ∙ c.truth-truth.ensures.fit n m left right)

pub returns-in-Some-Some-clause-rows : goal.returns-in-Some-Some-clause-rows
returns-in-Some-Some-clause-rows c =
    let left : truth_val c.truth_of.result ≡ seen c.args.l.now.ty c.in-Some-Some.x.now = ap truth_val c.truth_of.ensures ∙ truth_seen c.args.l.now.ty (raw_view c.in-Some-Some.x.now) c.requires.left c.in-Some-Some.ensures.fit in
    let right : truth_val c.truth_of-in-Some-Some.result ≡ seen c.args.r.now.ty c.in-Some-Some.y.now = ap truth_val c.truth_of-in-Some-Some.ensures ∙ truth_seen c.args.r.now.ty (raw_view c.in-Some-Some.y.now) c.requires.right c.in-Some-Some.ensures'.fit in
    let value = c.truth-truth.ensures.value ∙ (λ j. connected3 c.args.self (left j) (right j)) in
    ap (λ (r : Column). r.rows) c.of_constant.ensures ∙ ap (replicate c.len.result) (c.of_truth.ensures.value c.union_of-nullability.result) ∙ zip_constant_truth (connected3 c.args.self) c.args.l.now c.args.r.now c.len.result c.truth-truth.result _ _ c.len.ensures c.requires.lengths c.in-Some-Some.ensures.value c.in-Some-Some.ensures'.value value

pub from_truths-requires : goal.from_truths-requires
from_truths-requires c =
    let n = nullability_of c.args.l.now.ty in
    let m = nullability_of c.args.r.now.ty in
    let left = ap (truths_fit n) c.truths_in.ensures ∙ c.in_ok-left-in_default.ensures.fit in
    let right = ap (truths_fit m) c.truths_in-in_default.ensures ∙ c.in_ok-right-in_default.ensures.fit in
    ap (λ k. truths_fit k c.in_ok-made-in_default.made) c.union_of-nullability.ensures ∙ connected_fit c.args.self n m c.truths_in.result.now c.truths_in-in_default.result.now c.in_ok-made-in_default.made c.in_ok-made-in_default.ensures left right
