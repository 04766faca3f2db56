use Rattle.std.proofs.Common.{Some, sym, ap, ◌∙◌, subst}
use Rattle.std.specs.Prelude.{option_map}
use Rattle.std.specs.Str.{IsUtf8}
use Rattle.vx_tokens.proofs.RunLemmas.{quoted_is, quoted_not}
use Rattle.vx_tokens.proofs.lexing.quoted_text.Goals as goal

pub returns-in-Ok : goal.returns-in-Ok
returns-in-Ok c =
    let inner = c.in-Some.inner.items in
    let found = ap (option_map (λ x. (x.0.items, x.1.now))) (sym c.in-Some.is) ∙ c.in_ok-inner.ensures in
    let same = c.in_ok-new-in-Ok.ensures ∙ c.in-Ok.ensures.cases.0 ∙ c.as_slice.ensures.value in
    ap (λ x. Some (x, c.in-Some.rest.now)) same ∙ quoted_is c.args.mark c.args.bytes.now inner c.in-Some.rest.now (subst IsUtf8 c.as_slice.ensures.value c.in-Ok.ensures.cases.1) found

pub returns : goal.returns
returns c =
    let found = ap (option_map (λ x. (x.0.items, x.1.now))) (sym c.in-Some.is) ∙ c.in_ok-inner.ensures in
    quoted_not c.args.mark c.args.bytes.now c.in-Some.inner.items c.in-Some.rest.now (λ text. c.in-Err.ensures.cases.0 (subst IsUtf8 (sym c.as_slice.ensures.value) text)) found
