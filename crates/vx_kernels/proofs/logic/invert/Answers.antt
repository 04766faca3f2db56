use Rattle.std.proofs.Common.{◌≡◌, true, ap, sym, ◌∙◌, map}
use Rattle.std.proofs.Math.ListN.{replicate}
use Rattle.vx_dtype.specs.TypeRules.{nullability_of}
use Rattle.vx_dtype.specs.Logic.{not3}
use Rattle.vx_dtype.specs.RawViews.{raw_view}
use Rattle.vx_words.specs.Words.{truth_val}
use Rattle.vx_column.specs.RawParts.{truth_fits}
use Rattle.vx_column.specs.Columns.{Column, seen}
use Rattle.vx_column.specs.ColumnParts.{truths_fit}
use Rattle.vx_column.proofs.RowLemmas.{map_repeated}
use Rattle.vx_column.proofs.TruthLemmas.{truth_seen, truth_fits_seen}
use Rattle.vx_kernels.proofs.ConnectedTruths.{not_fit}
use Rattle.vx_kernels.proofs.logic.invert.Goals as goal

pub of_constant-requires-clause-fit : goal.of_constant-requires-clause-fit
of_constant-requires-clause-fit c =
    let own = c.nullability-nullability.ensures ∙ ap nullability_of c.dtype.ensures.shown in
    let fit : truth_fits (nullability_of c.args.c.now.ty) c.truth_of.result ≡ true = ap (truth_fits (nullability_of c.args.c.now.ty)) c.truth_of.ensures ∙ truth_fits_seen c.args.c.now.ty (raw_view c.in-Some.value.now) c.requires c.in-Some.ensures.fit in
    c.of_truth.ensures.fit c.nullability-nullability.result (ap (λ k. truth_fits k c.not_truth-truth.result) own ∙ c.not_truth-truth.ensures.fit (nullability_of c.args.c.now.ty) fit)

pub returns-in-Some-clause-rows : goal.returns-in-Some-clause-rows
returns-in-Some-clause-rows c =
    let own : truth_val c.truth_of.result ≡ seen c.args.c.now.ty c.in-Some.value.now = ap truth_val c.truth_of.ensures ∙ truth_seen c.args.c.now.ty (raw_view c.in-Some.value.now) c.requires c.in-Some.ensures.fit in
    let value = c.of_truth.ensures.value c.nullability-nullability.result ∙ c.not_truth-truth.ensures.value ∙ ap not3 own in
    ap (λ (r : Column). r.rows) c.of_constant.ensures ∙ ap (replicate c.len.result) value ∙ sym (map_repeated not3 c.len.result (seen c.args.c.now.ty c.in-Some.value.now)) ∙ ap (map not3) (ap (λ n. replicate n (seen c.args.c.now.ty c.in-Some.value.now)) c.len.ensures ∙ sym c.in-Some.ensures.value)

pub from_truths-requires : goal.from_truths-requires
from_truths-requires c =
    let own = c.nullability-nullability.ensures ∙ ap nullability_of c.dtype.ensures.shown in
    let fit = ap (truths_fit (nullability_of c.args.c.now.ty)) c.truths_in.ensures ∙ c.in_ok-truths.ensures.fit in
    ap (λ k. truths_fit k c.in_ok-made.made) own ∙ not_fit (nullability_of c.args.c.now.ty) c.truths_in.result.now c.in_ok-made.made c.in_ok-made.ensures fit
