use Rattle.std.proofs.Common.{◌≡◌, ◌∙◌, ap, ◌++◌, codes, option_map}
use Rattle.std.specs.String.{string_bytes}
use Rattle.vx_expr.specs.CompactTexts.{compact_text}
use Rattle.vx_laws_explaining.specs.ExplainedJson.{quoted_or_null}
use Rattle.vx_explaining.proofs.json.pruning_json.Goals as goal

pub returns : goal.returns
returns c =
    let text : string_bytes c.in_ok-format.field-0 ≡ codes ",\"pruning\":" ++ (string_bytes c.in_ok-pruning-2.pruning ++ (codes ",\"statistics\":["
    ++ string_bytes c.in_ok-names.names)) = c.in_ok-format.ensures.ok in
    let pruning : string_bytes c.in_ok-pruning-2.pruning ≡ quoted_or_null (option_map compact_text c.args.pruning.now) =
    c.in_ok-pruning-2.ensures ∙ ap quoted_or_null c.in_ok-pruning.ensures in
    text ∙ (λ i. codes ",\"pruning\":" ++ (pruning i ++ (codes ",\"statistics\":[" ++ c.in_ok-names.ensures i)))
