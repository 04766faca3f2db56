use Rattle.std.proofs.Common.{rules, ◌≡◌, ◌∙◌, ap, ◌++◌, map, List, Bool}
use Rattle.std.specs.String.{string_bytes}
use Rattle.vx_laws_explaining.specs.ExplainedJson.{blocks_json, columns_json, pruning_json}
use Rattle.vx_explaining.specs.ExplainedViews.{column_view, decider_view}
use Rattle.vx_explaining.proofs.json.json_front.Goals as goal

pub returns : goal.returns
returns c =
    let x = c.args.explained.now in
    let text : string_bytes c.in_ok-format.field-0 ≡ string_bytes c.in_ok-expressions.expressions ++ (string_bytes c.in_ok-pruning.pruning
    ++ (string_bytes c.in_ok-columns.columns ++ string_bytes c.in_ok-blocks.blocks)) = search rules in
    let pruning : string_bytes c.in_ok-pruning.pruning ≡ pruning_json x.pruning (map decider_view x.deciders.items) =
    c.in_ok-pruning.ensures ∙ ap (λ ds. pruning_json x.pruning (map decider_view ds)) c.as_slice.ensures.value in
    let columns : string_bytes c.in_ok-columns.columns ≡ columns_json (map column_view x.columns.items) =
    c.in_ok-columns.ensures ∙ ap (λ cs. columns_json (map column_view cs)) c.as_slice-2.ensures.value in
    let blocks : string_bytes c.in_ok-blocks.blocks ≡ blocks_json x.skipped.items x.lengths.now =
    c.in_ok-blocks.ensures ∙ ap (λ (flags : List Bool). blocks_json flags x.lengths.now) c.as_slice-3.ensures.value in
    text ∙ (λ i. c.in_ok-expressions.ensures i ++ (pruning i ++ (columns i ++ blocks i)))
