use Rattle.std.proofs.Common.{rules, ◌∙◌, ap, sym, option_map, unwrap_or}
use Rattle.vx_expr.specs.Trees.{root, get_item}
use Rattle.vx_passes.specs.Merging.{Giving, giving_names}
use Rattle.vx_transform.specs.CodeViews.{giving_view}
use Rattle.vx_typing.proofs.FieldPlaces.{seen_within, seen_giver}
use Rattle.vx_transform.proofs.merges.given_field.Goals as goal

pub bounds-given-field : goal.bounds-given-field
bounds-given-field c = seen_within giving_view giving_names c.args.given.now c.args.field.now c.requires

pub offset_bounds-given-field : goal.offset_bounds-given-field
offset_bounds-given-field c = let within = seen_within giving_view giving_names c.args.given.now c.args.field.now c.requires in search (rules, within)

pub returns : goal.returns
returns c =
    let f = c.args.field.now.name in
    let giving = c.index-given-field.result in
    let giver = seen_giver giving_view giving_names c.args.given.now c.args.field.now c.requires giving c.index-given-field.is in
    c.in_ok-get_item.ensures ∙ ap (λ g. get_item g c.in_ok-clone-2.field-0) c.in_ok-clone.ensures.cases ∙ ap (get_item f) c.in_ok-clone-2.ensures.cases
    ∙ ap (λ o. get_item f (unwrap_or (option_map (λ (g : Giving). g.expression) o) root)) (sym giver.last)
