use Rattle.std.proofs.Common.{rules, ◌≡◌, ◌∙◌, ◌++◌, subst}
use Rattle.std.specs.Prelude.{IfOk}
use Rattle.std.specs.String.{string_bytes}
use Rattle.vx_dtype.specs.Types.{Bytes}
use Rattle.vx_explain.proofs.ExplainLemmas.{lines_joined}
use Rattle.vx_explain.proofs.explaining.lines.Goals as goal

pub returns : goal.returns
returns c =
    let texts = c.args.texts.now in
    let head_shown : c.as_str.result.now ≡ string_bytes c.in_ok-head.head = search rules in
    let rest_shown : c.as_str-2.result.now ≡ string_bytes c.in_ok-rest.rest = search rules in
    let head = head_shown ∙ c.in_ok-head.ensures in
    let rest = rest_shown ∙ c.in_ok-rest.ensures in
    subst (λ (bytes : Bytes). IfOk c.joined.result (λ text. string_bytes text ≡ bytes))
    ((λ i. head i ++ rest i)
    ∙ lines_joined (string_bytes texts.filter) (string_bytes texts.pruning) (string_bytes texts.required) (string_bytes texts.filter_parts) (string_bytes texts.projection)
    (string_bytes texts.projection_parts)) c.joined.ensures
