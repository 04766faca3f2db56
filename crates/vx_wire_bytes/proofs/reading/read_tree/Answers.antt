use Rattle.std.proofs.Common.{◌≡◌, length, Some, None, [], sym, ap, ◌∙◌, subst, arith}
use Rattle.std.specs.Prelude.{option_map}
use Rattle.std.proofs.lemmas.List.{nil_from_length}
use Rattle.std.proofs.lemmas.Bool.{eqb-true, eqb-false}
use Rattle.vx_wire_bytes.specs.Reading.{head_at, behind}
use Rattle.vx_wire_bytes.specs.WireViews.{tree_view}
use Rattle.vx_wire_bytes.specs.OpenViews.{head_view, stack_of, closed_view}
use Rattle.vx_wire_bytes.proofs.StackLemmas.{length-stack_of}
use Rattle.vx_wire_bytes.proofs.ReadLemmas.{Reached, starts, place_next, goes_on, too_many, too_deep, bad_head, is_read, left_over}
use Rattle.vx_wire_bytes.proofs.reading.read_tree.Goals as goal

pub loop-begun-init : goal.loop-begun-init
loop-begun-init c = subst (λ os. Reached c.args.bytes.now 0 (stack_of os) c.args.bytes.now) (sym c.new-nodes.ensures.items) (starts c.args.bytes.now)

pub returns-then-len-eq-MOST_OPEN-clause-refused : goal.returns-then-len-eq-MOST_OPEN-clause-refused
returns-then-len-eq-MOST_OPEN-clause-refused c =
    too_deep c.args.bytes.now (λ i. omega (arith, c.type_inv.bytes i)) c.loop-begun.begun (stack_of c.loop-begun.nodes.items) c.loop-begun.rest.now c.loop-begun.invariant c.loop-begun-test.true
    (omega (arith, length-stack_of c.loop-begun.nodes.items))

pub returns-in_default-clause-refused : goal.returns-in_default-clause-refused
returns-in_default-clause-refused c =
    let none : None ≡ head_at c.loop-begun.rest.now = ap (option_map (λ x. (head_view x.0, x.1.now))) (sym c.in_default.is) ∙ c.in_ok-node.ensures.read in
    bad_head c.args.bytes.now c.loop-begun.begun (stack_of c.loop-begun.nodes.items) c.loop-begun.rest.now c.loop-begun.invariant c.loop-begun-test.true
    (λ e. c.if-len-eq-MOST_OPEN.false (omega (arith, length-stack_of c.loop-begun.nodes.items, e))) none

pub returns-then-is_empty-clause-read : goal.returns-then-is_empty-clause-read
returns-then-is_empty-clause-read c =
    let head = ap (option_map (λ x. (head_view x.0, x.1.now))) (sym c.in-Some.is) ∙ c.in_ok-node.ensures.read in
    let whole = ap (λ t. closed_view t c.begin.new.nodes.items) (sym c.in-Some-2.is) ∙ c.in_ok-tree.ensures in
    let at = place_next c.args.bytes.now c.loop-begun.begun (stack_of c.loop-begun.nodes.items) c.loop-begun.rest.now (head_view c.in-Some.node) c.in-Some.after.now (closed_view (Some c.in-Some-2.tree) c.begin.new.nodes.items) c.loop-begun.invariant.here head whole in
    let none : c.in-Some.after.now ≡ [] = nil_from_length c.in-Some.after.now (eqb-true _ _ (sym c.is_empty.ensures ∙ c.if-is_empty.true)) in
    is_read c.args.bytes.now (λ i. omega (arith, c.type_inv.bytes i)) c.loop-begun.begun (stack_of c.loop-begun.nodes.items) c.loop-begun.rest.now (tree_view c.in-Some-2.tree) c.loop-begun.invariant c.loop-begun-test.true
    (λ e. c.if-len-eq-MOST_OPEN.false (omega (arith, length-stack_of c.loop-begun.nodes.items, e))) (at ∙ ap (behind (tree_view c.in-Some-2.tree)) none)

pub returns-in-Some-2-clause-refused : goal.returns-in-Some-2-clause-refused
returns-in-Some-2-clause-refused c =
    let head = ap (option_map (λ x. (head_view x.0, x.1.now))) (sym c.in-Some.is) ∙ c.in_ok-node.ensures.read in
    let whole = ap (λ t. closed_view t c.begin.new.nodes.items) (sym c.in-Some-2.is) ∙ c.in_ok-tree.ensures in
    let at = place_next c.args.bytes.now c.loop-begun.begun (stack_of c.loop-begun.nodes.items) c.loop-begun.rest.now (head_view c.in-Some.node) c.in-Some.after.now (closed_view (Some c.in-Some-2.tree) c.begin.new.nodes.items) c.loop-begun.invariant.here head whole in
    left_over c.args.bytes.now c.loop-begun.begun (stack_of c.loop-begun.nodes.items) c.loop-begun.rest.now (tree_view c.in-Some-2.tree) c.in-Some.after.now c.loop-begun.invariant c.loop-begun-test.true
    (λ e. c.if-len-eq-MOST_OPEN.false (omega (arith, length-stack_of c.loop-begun.nodes.items, e))) at
    (λ e. eqb-false _ _ (sym c.is_empty.ensures ∙ c.if-is_empty.false) (ap length e))

pub loop-begun-preserved : goal.loop-begun-preserved
loop-begun-preserved c =
    let head = ap (option_map (λ x. (head_view x.0, x.1.now))) (sym c.in-Some.is) ∙ c.in_ok-node.ensures.read in
    let none : c.in_ok-tree.field-0 ≡ None = c.in_default-2.is in
    let whole = ap (λ t. closed_view t c.begin.new.nodes.items) (sym none) ∙ c.in_ok-tree.ensures in
    let at = place_next c.args.bytes.now c.loop-begun.begun (stack_of c.loop-begun.nodes.items) c.loop-begun.rest.now (head_view c.in-Some.node) c.in-Some.after.now (closed_view None c.begin.new.nodes.items) c.loop-begun.invariant.here head whole in
    goes_on c.args.bytes.now c.loop-begun.begun (stack_of c.loop-begun.nodes.items) (stack_of c.begin.new.nodes.items) c.loop-begun.rest.now c.in-Some.after.now c.loop-begun.invariant
    (λ e. c.if-len-eq-MOST_OPEN.false (omega (arith, length-stack_of c.loop-begun.nodes.items, e))) at

pub returns-clause-refused : goal.returns-clause-refused
returns-clause-refused c =
    let all : c.loop-begun.begun ≡ 4096 = omega arith in
    too_many c.args.bytes.now (λ i. omega (arith, c.type_inv.bytes i)) (stack_of c.loop-begun.nodes.items) c.loop-begun.rest.now (subst (λ k. Reached c.args.bytes.now k (stack_of c.loop-begun.nodes.items) c.loop-begun.rest.now) all c.loop-begun.invariant)
