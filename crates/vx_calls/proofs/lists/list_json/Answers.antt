use Rattle.std.proofs.Common.{rules, ◌≡◌, ◌∙◌, ◌++◌, codes, ap}
use Rattle.std.specs.String.{string_bytes}
use Rattle.vx_calls.specs.Lists.{list_json}
use Rattle.vx_calls.proofs.ListLemmas.{joined}
use Rattle.vx_calls.proofs.lists.list_json.Goals as goal

pub returns : goal.returns
unfolding list_json
returns c =
    let text : string_bytes c.in_ok-format.field-0 ≡ codes "[" ++ (string_bytes c.in_ok-joined.joined ++ codes "]") = search rules in
    text ∙ ap (λ inner. codes "[" ++ (inner ++ codes "]")) (c.in_ok-joined.ensures.ok ∙ joined string_bytes (codes ",") c.args.texts.now)
