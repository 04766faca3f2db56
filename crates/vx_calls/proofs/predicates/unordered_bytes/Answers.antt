use Rattle.std.proofs.Common.{subst}
use Rattle.vx_expr.specs.Trees.{Tree}
use Rattle.vx_sql.specs.StatementAnswers.{key_view, plan_view}
use Rattle.vx_calls.specs.Answers.{told_bytes}
use Rattle.vx_calls.specs.Steps.{TellsBytes}
use Rattle.vx_calls.proofs.PredicateLemmas.{nothing, nothing_seen, plan_named}
use Rattle.vx_calls.proofs.predicates.unordered_bytes.Goals as goal

pub returns-in-Ok : goal.returns-in-Ok
returns-in-Ok c = λ schema predicate plan.
    let own = c.args.plan.now in
    let given = told_bytes c.expression_bytes.result in
    plan_named schema predicate (plan_view own) given plan (nothing_seen key_view own.order c.requires.order) (nothing own.limit c.requires.limit)
    (subst (λ (t : Tree). TellsBytes t given) c.in-Ok.ensures c.expression_bytes.ensures)
