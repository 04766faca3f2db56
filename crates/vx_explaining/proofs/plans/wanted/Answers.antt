use Rattle.std.proofs.Common.{ap, sym, subst, option_map, Result}
use Rattle.vx_laws_shell.specs.Wants.{OrderRefusal, Wanted, in_order}
use Rattle.vx_sql.specs.StatementAnswers.{key_view, plan_view}
use Rattle.vx_explaining.specs.ExplainingSteps.{AnswersWanted}
use Rattle.vx_explaining.proofs.PlanLemmas.{wanted_keyed, wanted_unkeyed}
use Rattle.vx_explaining.proofs.plans.wanted.Goals as goal

pub returns-in-None : goal.returns-in-None
returns-in-None c = λ columns. (in_order c.args.plan.now.limit, wanted_unkeyed columns (plan_view c.args.plan.now) (ap (option_map key_view) c.in-None.is))

pub returns-in-Some : goal.returns-in-Some
returns-in-Some c = λ columns.
    let plan = plan_view c.args.plan.now in
    let key = key_view c.in-Some.field-0 in
    subst (λ (given : Result Wanted OrderRefusal). AnswersWanted given c.wanted_by_key.result)
    (sym (wanted_keyed columns plan key (ap (option_map key_view) c.in-Some.is))) (c.wanted_by_key.ensures columns plan key)
