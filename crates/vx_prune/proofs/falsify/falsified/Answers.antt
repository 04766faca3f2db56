use Rattle.std.proofs.Common.{rules, ◌≡◌, refl, [], subst}
use Rattle.vx_expr.proofs.PostOrderLemmas.{mapped_more}
use Rattle.vx_passes.specs.Falsifying.{falsified}
use Rattle.vx_prune.specs.Steps.{Leads, all_stepped, held, stepped, task_of, task_steps, tasks_of}
use Rattle.vx_prune.proofs.StepLemmas.{at_first, fewer_left, goes_on, lacks_whole, leads_end, stops_whole}
use Rattle.vx_prune.proofs.falsify.falsified.Goals as goal

pub returns-in_err-push : goal.returns-in_err-push
returns-in_err-push g c =
    lacks_whole g.C.StatsCatalog.answer g.C.StatsCatalog.asked (λ k. falsified k c.args.expr.now) c.args.catalog.now c.from_residual.result c.from_residual.ensures.0

pub loop-step-init : goal.loop-step-init
loop-step-init g c =
    rw (c.in_ok-push.ensures.items, c.new-left.ensures.items) (at_first (λ k. falsified k c.args.expr.now) (λ k. falsified k c.args.expr.now) c.args.catalog.now refl)

pub returns-in_err-found : goal.returns-in_err-found
returns-in_err-found g c =
    let popped = mapped_more task_of c.pop.new.self.items c.loop-step.left.items c.in-Some.step c.in-Some.ensures.items in
    stops_whole (λ k. falsified k c.args.expr.now) (tasks_of c.loop-step.left.items) (tasks_of c.pop.new.self.items) (task_of c.in-Some.step) c.loop-step.found
    c.args.catalog.now c.loop-step.catalog c.take_step.new.catalog _ c.from_residual-in_err-found.result popped c.loop-step.invariant c.in_err-found.ensures
    c.from_residual-in_err-found.ensures.0

pub loop-step-smaller : goal.loop-step-smaller
loop-step-smaller g c =
    let popped = mapped_more task_of c.pop.new.self.items c.loop-step.left.items c.in-Some.step c.in-Some.ensures.items in
    fewer_left (λ k. stepped k (task_of c.in-Some.step) (held c.loop-step.found)) (tasks_of c.loop-step.left.items) (tasks_of c.pop.new.self.items) (tasks_of c.take_step.new.left.items)
    (task_of c.in-Some.step) (task_steps (task_of c.in-Some.step)) c.in_ok-found.found c.loop-step.catalog c.take_step.new.catalog popped refl c.in_ok-found.ensures

pub loop-step-preserved : goal.loop-step-preserved
loop-step-preserved g c =
    let popped = mapped_more task_of c.pop.new.self.items c.loop-step.left.items c.in-Some.step c.in-Some.ensures.items in
    goes_on (λ k. falsified k c.args.expr.now) (tasks_of c.loop-step.left.items) (tasks_of c.pop.new.self.items) (tasks_of c.take_step.new.left.items) (task_of c.in-Some.step)
    c.loop-step.found c.in_ok-found.found c.args.catalog.now c.loop-step.catalog c.take_step.new.catalog popped c.loop-step.invariant c.in_ok-found.ensures

pub returns : goal.returns
returns g c =
    let none : c.loop-step.left.items ≡ [] = search rules in
    leads_end
    (subst (λ ss. Leads g.C.StatsCatalog.answer g.C.StatsCatalog.asked (λ k. falsified k c.args.expr.now) (λ k. all_stepped k (tasks_of ss) (held c.loop-step.found)) c.args.catalog.now c.loop-step.catalog)
    none c.loop-step.invariant)
