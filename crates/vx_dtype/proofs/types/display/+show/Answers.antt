use Rattle.std.proofs.Common.{rules, ◌≡◌, ap, sym, ◌∙◌, refl, ◌+◌, ◌<◌, [], ◌++◌, length, append_assoc}
use Rattle.std.proofs.Math.ListN.{get_or}
use Rattle.std.proofs.Output.{has_written_append}
use Rattle.vx_dtype.specs.Texts.{fields_text, field_text, separator_at}
use Rattle.vx_dtype.specs.TypeViews.{type_view}
use Rattle.vx_dtype.proofs.ZippedLemmas.{fields_from}
use Rattle.vx_dtype.proofs.TextLemmas.{fields_text_step}
use Rattle.vx_dtype.proofs.types.display.+show.Goals as goal

pub show_fields-loop-i-init : goal.show_fields-loop-i-init
show_fields-loop-i-init g t c = λ p. ([], (record { wrote = record { parts = []; calls = refl; whole = refl }; plain = p }, ap (fields_text []) (sym c.fields.view_is)))

pub show_fields-loop-i-preserved : goal.show_fields-loop-i-preserved
show_fields-loop-i-preserved g t c = λ p.
    let w = c.loop-i.invariant p in
    let x = c.index-dtype.result.now in
    let names = c.fields.inside.names in
    let items = c.fields.inside.dtypes.value.items in
    let name = c.index-as_slice-i.result in
    let within_items : c.loop-i.i < length items = search rules in
    let at : x ≡ get_or items c.loop-i.i x = search rules in
    let named : name ≡ get_or names c.loop-i.i name = search rules in
    let piece = field_text (separator_at c.loop-i.i) name (type_view x) in
    let rest = fields_text (separator_at (c.loop-i.i + 1)) (fields_from type_view (c.loop-i.i + 1) names items) in
    let step = fields_text_step type_view names items c.loop-i.i name x c.fields.invariant.0 within_items in
    let same : field_text (separator_at c.loop-i.i) (get_or names c.loop-i.i name) (type_view (get_or items c.loop-i.i x)) ++ rest ≡ piece ++ rest =
    λ i. field_text (separator_at c.loop-i.i) (sym named i) (type_view (sym at i)) ++ rest in
    (w.0 ++ piece, (has_written_append _ _ w.0 _ piece _ w.1.0 (search rules), w.1.1 ∙ ap (λ bs. w.0 ++ bs) (step ∙ same) ∙ sym (append_assoc w.0 piece rest)))
