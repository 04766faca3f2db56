use Rattle.std.proofs.Common.{rules, ◌≡◌, ◌∙◌, ◌++◌, codes}
use Rattle.std.specs.String.{string_bytes}
use Rattle.vx_explaining.proofs.json.expressions_json.Goals as goal

pub returns : goal.returns
returns c =
    let text : string_bytes c.in_ok-format.field-0 ≡ codes "{\"filter\":" ++ (string_bytes c.in_ok-filter.filter ++ (codes ",\"projection\":"
    ++ string_bytes c.in_ok-projection.projection)) = search rules in
    text ∙ (λ i. codes "{\"filter\":" ++ (c.in_ok-filter.ensures i ++ (codes ",\"projection\":" ++ c.in_ok-projection.ensures i)))
