use Rattle.std.proofs.Common.{◌≡◌, ◌∙◌, ◌++◌, List, [], ◌∷◌, map, ap, sym}
use Rattle.std.specs.BTreeSet as set
use Rattle.std.specs.Cmp.Lexicographic.{slice_cmp}
use Rattle.std.specs.Ordering.{nat_cmp}
use Rattle.vx_dtype.specs.Types.{Bytes}
use Rattle.vx_dtype.specs.TypeRules.{has_name}
use Rattle.vx_sql_forms.specs.declared.TypedExpr.{TypedExpr}
use Rattle.vx_sql.specs.SelectLists.{named_view}
use Rattle.vx_sql.proofs.SelectLemmas.{one_more, names_behind}
use Rattle.vx_sql.proofs.select_lists.add.Goals as goal

-- src/select_lists.rt:38:1
pub returns-clause-names : goal.returns-clause-names
returns-clause-names c = λ q.
    let f = c.in_ok-clone.field-0 in
    let old = c.args.columns.now.found.items in
    let names : List (Bytes × TypedExpr) → List Bytes = λ xs. map (λ y. y.0) (map named_view xs) in
    let was = set.contains (slice_cmp nat_cmp) c.args.columns.now.names q in
    let now = set.contains (slice_cmp nat_cmp) c.insert.new.self q in
    let added : now ≡ has_name q (names old ++ f ∷ []) = one_more f q (names old) was now (c.requires q) (c.in_ok-insert.ensures.updates.0 q) in
    let same : now ≡ has_name q (names old ++ c.args.name ∷ []) = added ∙ ap (λ (g : Bytes). has_name q (names old ++ g ∷ [])) c.in_ok-clone.ensures.cases in
    same ∙ sym (ap (λ (xs : List (Bytes × TypedExpr)). has_name q (names xs)) c.in_ok-push.ensures.items ∙ ap (has_name q) (names_behind old c.args.name c.args.value))
