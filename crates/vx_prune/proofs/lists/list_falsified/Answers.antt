use Rattle.std.proofs.Common.{◌≡◌, true, map, ap, sym, subst, ◌∙◌}
use Rattle.vx_dtype.specs.Fits.{fits, all_fit}
use Rattle.vx_dtype.specs.RawViews.{raw_view, raws_of, raw_step}
use Rattle.vx_dtype.specs.TypeViews.{type_view}
use Rattle.vx_dtype.specs.Types.{list_ty}
use Rattle.vx_dtype.specs.Values.{Raw, raw_list}
use Rattle.vx_dtype.specs.declared.values.ScalarValue.TheOpen.{List}
use Rattle.vx_dtype.specs.declared.values.ScalarValue.TheVariants.{rolls-List}
use Rattle.vx_dtype.specs.declared.values.ScalarValue.TheFolds.{fold-roll-ScalarValue}
use Rattle.vx_prune.proofs.lists.list_falsified.Goals as goal

pub elements_falsified-requires : goal.elements_falsified-requires
unfolding fits
elements_falsified-requires g c =
    let elements = c.in-List-List.elements in
    let row : c.as_slice.result.now ≡ elements.value.items = c.as_slice.ensures.value ∙ ap (λ v. v.items) c.deref.ensures in
    let seen : raw_view c.value.result.now ≡ raw_list (raws_of (map raw_view c.as_slice.result.now)) =
    ap raw_view c.in-List-List.is-1 ∙ ap raw_view (sym (rolls-List elements)) ∙ fold-roll-ScalarValue Raw raw_step (List elements) ∙ ap (λ xs. raw_list (raws_of (map raw_view xs))) (sym row) in
    let type : type_view c.dtype.result.now ≡ list_ty c.in-List-List.element c.in-List-List.field-1-0 = ap type_view c.in-List-List.is-0 in
    let fit : fits (raw_view c.value.result.now) (type_view c.dtype.result.now) ≡ true = (λ i. fits (c.value.ensures.held i) (c.dtype.ensures i)) ∙ c.value.ensures.within in
    let all : all_fit (raws_of (map raw_view c.as_slice.result.now)) c.in-List-List.element ≡ true = (λ i. fits (sym seen i) (sym type i)) ∙ fit in
    subst (λ e. all_fit (raws_of (map raw_view c.as_slice.result.now)) e ≡ true) (sym c.dtype-in-List-List.ensures) all
