use Rattle.std.proofs.Common.{ap, subst, ◌∙◌}
use Rattle.std.specs.Prelude.{IfOk}
use Rattle.std.specs.Str.{bytes_eq}
use Rattle.vx_passes.specs.Annotating.{annotated, entry_of}
use Rattle.vx_partition.specs.Scopes.{columns_of, HasJust}
use Rattle.vx_partition.proofs.EntryLemmas.{held_entry}
use Rattle.vx_partition.proofs.scope_access.immediate_scope_access.Goals as goal

pub returns-in-Some : goal.returns-in-Some
returns-in-Some c =
    let e = c.args.expr.now in
    let found = c.in_ok-found.found in
    let n = c.in_ok-found.number in
    let own =
    c.in-Some.ensures ∙ held_entry found c.in_ok-found.ensures.sound n e c.in_ok-found.ensures.number
    ∙ ap (entry_of e) (c.in_ok-found.ensures.entries ∙ ap (λ scope. annotated bytes_eq (columns_of scope) e) c.annotate_scope_access.ensures) in
    subst (λ names. IfOk c.set_of.result (HasJust names)) own c.set_of.ensures

pub returns : goal.returns
returns c =
    let e = c.args.expr.now in
    let found = c.in_ok-found.found in
    let n = c.in_ok-found.number in
    let own =
    c.in-None.ensures ∙ held_entry found c.in_ok-found.ensures.sound n e c.in_ok-found.ensures.number
    ∙ ap (entry_of e) (c.in_ok-found.ensures.entries ∙ ap (λ scope. annotated bytes_eq (columns_of scope) e) c.annotate_scope_access.ensures) in
    subst (λ names. IfOk c.set_of-in-None.result (HasJust names)) own c.set_of-in-None.ensures
