use Rattle.std.proofs.Common.{◌≡◌, sym, subst, true, [], option_map, Ok}
use Rattle.std.specs.Prelude.{IfOk}
use Rattle.vx_dtype.specs.Types.{Ty}
use Rattle.vx_expr.specs.Trees.{Tree}
use Rattle.vx_semantics.specs.Slots.{slots_fit}
use Rattle.vx_semantics.specs.Tables.{row_type}
use Rattle.vx_semantics.specs.Typing.{typed_of}
use Rattle.vx_sql.specs.StatementAnswers.{key_view, plan_view}
use Rattle.vx_laws_explaining.specs.Explained as spec
use Rattle.vx_laws_explaining.proofs.TypedPlans.{plans_are_typed}
use Rattle.vx_explaining.specs.ExplainedViews.{explained_view}
use Rattle.vx_explaining.proofs.plans.explained_of.Goals as goal

pub explained_by-requires : goal.explained_by-requires
explained_by-requires c =
    let zones = c.args.zones.now in
    let t = row_type zones.columns in
    let plan = plan_view c.args.plan.now in
    let law = plans_are_typed zones c.requires.planned.0 plan c.requires.rules c.requires.planned.1 in
    let filter = sym c.in_ok-filter.ensures in
    let rows = sym c.in_ok-projection.ensures.cases in
    record {
      lengths = c.requires.lengths;
      filter = subst (λ (f : Tree). (u : Ty) × (typed_of t f ≡ Ok u)) filter law.0;
      filter_slots = subst (λ (f : Tree). slots_fit [] f ≡ true) filter law.1;
      rows = subst (λ (p : Tree). (u : Ty) × (typed_of t p ≡ Ok u)) rows (plan.rows.ty, law.2);
      rows_slots = subst (λ (p : Tree). slots_fit [] p ≡ true) rows law.3;
    }

pub returns : goal.returns
returns c =
    let zones = c.args.zones.now in
    let order = option_map key_view c.args.plan.now.order in
    subst (λ (made : spec.Explained). IfOk c.explained_by.result (λ x. explained_view x ≡ made))
    (λ i. spec.explained_by zones (c.in_ok-filter.ensures i) (c.in_ok-projection.ensures.cases i) order) c.explained_by.ensures
