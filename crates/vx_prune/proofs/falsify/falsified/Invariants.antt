use Rattle.vx_passes.specs.Falsifying.{falsified}
use Rattle.vx_prune.specs.Steps.{Leads, all_stepped, held, tasks_of, tasks_steps}
use Rattle.vx_prune.proofs.falsify.falsified.Given as goal

-- what is left of the falsification is what the steps that are left find of what was found
abbrev pub invariant-loop-step : goal.invariant-loop-step
invariant-loop-step g l =
    Leads g.C.StatsCatalog.answer g.C.StatsCatalog.asked (λ k. falsified k l.expr) (λ k. all_stepped k (tasks_of l.left.items) (held l.found)) l.fn.catalog l.catalog

abbrev pub decreases-loop-step : goal.decreases-loop-step
decreases-loop-step g l = tasks_steps (tasks_of l.left.items)
