use Rattle.std.proofs.Common.{◌≡◌, ◌+◌, List, ◌∷◌, ◌++◌, [], None, Some, not, rules, arith, ap, sym, ◌∙◌}
use Rattle.vx_expr.specs.declared.Operator.{Operator}
use Rattle.vx_expr.specs.Operators.{comparison_of}
use Rattle.vx_expr.specs.Nodes.{binary_left, binary_operator, binary_right, binary_tree}
use Rattle.vx_expr.specs.Trees.{binary}
use Rattle.vx_passes.specs.Falsifying.{comparison_falsified}
use Rattle.vx_prune.specs.Steps.{Task, ask, filtered, further_steps, second_task, task_of, tasks_of}
use Rattle.vx_prune.proofs.StepLemmas.{and_left, asks_once, compared, found_same, leaves, or_left, second_steps}
use Rattle.vx_prune.proofs.falsify.ask_binary.Goals as goal

-- two steps that are added, by what they are
two_added : (old new : List Task) (first later f l : Task) → new ≡ old ++ l ∷ f ∷ [] → l ≡ later → f ≡ first → new ≡ old ++ later ∷ first ∷ []
two_added old new first later f l added is_later is_first = added ∙ ap (λ t. old ++ t ∷ f ∷ []) is_later ∙ ap (λ t. old ++ later ∷ t ∷ []) is_first

pub returns-in_ok-add_steps-in-And : goal.returns-in_ok-add_steps-in-And
returns-in_ok-add_steps-in-And g c =
    let n = c.args.negated in
    let l = binary_left c.args.node.now in
    let r = binary_right c.args.node.now in
    let op : binary_operator c.args.node.now ≡ Operator.And = sym c.op.ensures ∙ c.in-And.is in
    leaves g.C.StatsCatalog.answer g.C.StatsCatalog.asked (λ k. filtered n k (binary_tree c.args.node.now)) (1 + (4 + further_steps l + further_steps r))
    (tasks_of c.args.left.now.items) (tasks_of c.add_steps.new.left.items) (second_task (not n) n r ∷ ask n l ∷ []) c.args.catalog.now None
    (two_added (tasks_of c.args.left.now.items) (tasks_of c.add_steps.new.left.items) (ask n l) (second_task (not n) n r) (ask n c.lhs.result.now) (task_of c.second_step-second.result)
    c.in_ok-add_steps-in-And.ensures (c.second_step-second.ensures ∙ ap (second_task (not n) n) c.rhs.ensures) (ap (ask n) c.lhs.ensures))
    (omega (arith, second_steps (not n) n r))
    (ap (λ o. filtered n (g.C.StatsCatalog.answer c.args.catalog.now) (binary l o r)) op ∙ and_left (g.C.StatsCatalog.answer c.args.catalog.now) n l r)

pub returns-in_ok-add_steps-in-Or : goal.returns-in_ok-add_steps-in-Or
returns-in_ok-add_steps-in-Or g c =
    let n = c.args.negated in
    let l = binary_left c.args.node.now in
    let r = binary_right c.args.node.now in
    let op : binary_operator c.args.node.now ≡ Operator.Or = sym c.op.ensures ∙ c.in-Or.is in
    leaves g.C.StatsCatalog.answer g.C.StatsCatalog.asked (λ k. filtered n k (binary_tree c.args.node.now)) (1 + (4 + further_steps l + further_steps r))
    (tasks_of c.args.left.now.items) (tasks_of c.add_steps-in-Or.new.left.items) (second_task n n r ∷ ask n l ∷ []) c.args.catalog.now None
    (two_added (tasks_of c.args.left.now.items) (tasks_of c.add_steps-in-Or.new.left.items) (ask n l) (second_task n n r) (ask n c.lhs-in-Or.result.now) (task_of c.second_step-second-in-Or.result)
    c.in_ok-add_steps-in-Or.ensures (c.second_step-second-in-Or.ensures ∙ ap (second_task n n) c.rhs-in-Or.ensures) (ap (ask n) c.lhs-in-Or.ensures))
    (omega (arith, second_steps n n r))
    (ap (λ o. filtered n (g.C.StatsCatalog.answer c.args.catalog.now) (binary l o r)) op ∙ or_left (g.C.StatsCatalog.answer c.args.catalog.now) n l r)

pub returns-in-Some : goal.returns-in-Some
returns-in-Some g c =
    let n = c.args.negated in
    let l = binary_left c.args.node.now in
    let r = binary_right c.args.node.now in
    let k = g.C.StatsCatalog.answer c.args.catalog.now in
    let is : comparison_of (binary_operator c.args.node.now) ≡ Some c.in-Some.operator = search rules in
    asks_once g.C.StatsCatalog.answer g.C.StatsCatalog.asked (λ k. filtered n k (binary_tree c.args.node.now)) (1 + (4 + further_steps l + further_steps r))
    (tasks_of c.args.left.now.items) c.args.catalog.now c.comparison_falsified.new.catalog c.comparison_falsified.result (omega arith)
    (found_same g.C.StatsCatalog.answer g.C.StatsCatalog.asked (λ k. comparison_falsified k c.lhs-in-Some.result.now c.rhs-in-Some.result.now c.asked_operator-operator.result)
    (λ k. filtered n k (binary_tree c.args.node.now)) c.args.catalog.now c.comparison_falsified.new.catalog c.comparison_falsified.result
    ((λ i. comparison_falsified k (c.lhs-in-Some.ensures i) (c.rhs-in-Some.ensures i) (c.asked_operator-operator.ensures i))
    ∙ compared k n l r (binary_operator c.args.node.now) c.in-Some.operator is)
    c.comparison_falsified.ensures)
