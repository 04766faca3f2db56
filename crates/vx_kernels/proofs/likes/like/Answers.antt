use Rattle.std.proofs.Common.{◌≡◌, ◌∙◌, ap, refl, sym, true}
use Rattle.vx_dtype.specs.Types.{bool_ty, text_ty}
use Rattle.vx_dtype.specs.TypeRules.{nullability_of}
use Rattle.vx_dtype.specs.Like.{like3}
use Rattle.vx_dtype.specs.Fits.{fits}
use Rattle.vx_dtype.specs.RawViews.{raw_view}
use Rattle.vx_column.specs.Columns.{Column, seen}
use Rattle.vx_kernels.proofs.ZippedRows.{zip_constant}
use Rattle.vx_column.proofs.FitLemmas.{text_is}
use Rattle.vx_column.proofs.TruthLemmas.{bool_names}
use Rattle.vx_kernels.proofs.likes.like.Goals as goal

pub returns-in_ok-truth-in-Some-Some-clause-rows : goal.returns-in_ok-truth-in-Some-Some-clause-rows
returns-in_ok-truth-in-Some-Some-clause-rows c =
    let rule = like3 c.args.negated c.args.case_insensitive in
    let x = c.in-Some-Some.text.now in
    let y = c.in-Some-Some.pattern.now in
    let left : c.args.c.now.ty ≡ text_ty c.nullability-left.result = text_is _ c.requires.text ∙ ap text_ty (sym (c.nullability-left.ensures ∙ ap nullability_of c.dtype.ensures.shown)) in
    let right : c.args.pattern.now.ty ≡ text_ty c.nullability-right.result = text_is _ c.requires.pattern ∙ ap text_ty (sym (c.nullability-right.ensures ∙ ap nullability_of c.dtype-2.ensures.shown)) in
    let text : fits (raw_view x) (text_ty c.nullability-left.result) ≡ true = ap (fits (raw_view x)) (sym left) ∙ c.in-Some-Some.ensures.fit in
    let pattern : fits (raw_view y) (text_ty c.nullability-right.result) ≡ true = ap (fits (raw_view y)) (sym right) ∙ c.in-Some-Some.ensures'.fit in
    let value : seen (bool_ty c.union-nullability.result) c.of_truth.result ≡ rule (seen (text_ty c.nullability-left.result) x) (seen (text_ty c.nullability-right.result) y) = c.of_truth.ensures.value c.union-nullability.result ∙ c.in_ok-truth-in-Some-Some.ensures.value ∙ (λ j. rule (sym (c.text_of.ensures.value _ text) j) (sym (c.text_of-in-Some-Some.ensures.value _ pattern) j)) in
    ap (λ (r : Column). r.rows) c.of_constant.ensures ∙ zip_constant rule _ _ (bool_ty c.union-nullability.result) (bool_ty c.union-nullability.result) c.args.c.now c.args.pattern.now c.len.result x y c.of_truth.result left right refl c.len.ensures c.requires.lengths c.in-Some-Some.ensures.value c.in-Some-Some.ensures'.value value

pub of_constant-requires-clause-names : goal.of_constant-requires-clause-names
of_constant-requires-clause-names c = bool_names (bool_ty c.union-nullability.result) refl
