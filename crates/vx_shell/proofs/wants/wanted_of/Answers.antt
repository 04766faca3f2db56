use Rattle.std.proofs.Common.{ap, sym, subst, option_map, Result}
use Rattle.vx_laws_shell.specs.Wants as spec
use Rattle.vx_sql.specs.StatementAnswers.{key_view, plan_view}
use Rattle.vx_shell.specs.WantViews.{WantsOf}
use Rattle.vx_shell.proofs.PlanScans.{wanted_keyed}
use Rattle.vx_shell.proofs.wants.wanted_of.Goals as goal

pub returns-in-Some : goal.returns-in-Some
returns-in-Some c = λ columns.
    let plan = plan_view c.args.plan.now in
    subst (λ (given : Result spec.Wanted spec.OrderRefusal). WantsOf columns plan given c.first_by.result)
    (sym (wanted_keyed columns plan (key_view c.in-Some.key) (ap (option_map key_view) c.in-Some.is))) (c.first_by.ensures columns plan)
