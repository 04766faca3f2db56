use Rattle.std.proofs.Common.{rules, ◌≡◌, ◌∙◌, ◌++◌, [], map, refl, ap}
use Rattle.vx_expr.specs.Conjuncts.{conjuncts_of}
use Rattle.vx_build.proofs.ConjunctLemmas.{alone_fewer, alone_found, apart_fewer, apart_same, none_left, pushed}
use Rattle.vx_build.proofs.conjunctions.conjuncts.Goals as goal

pub loop-part-init : goal.loop-part-init
loop-part-init c = rw (c.new-found.ensures.items, c.in_ok-push.ensures.items, c.new-left.ensures.items) refl

pub loop-part-smaller-in_ok-push-in-Some-operands_of_and-2 : goal.loop-part-smaller-in_ok-push-in-Some-operands_of_and-2
loop-part-smaller-in_ok-push-in-Some-operands_of_and-2 c =
    let rest = c.pop.new.self.items in let mid = c.push-in-Some-operands_of_and.new.self.items in
    let first = c.in-Some-operands_of_and.first in let second = c.in-Some-operands_of_and.second in
    apart_fewer (map (λ e. e.now) rest) (map (λ e. e.now) c.loop-part.left.items) (map (λ e. e.now) mid) (map (λ e. e.now) c.push-in-Some-operands_of_and-2.new.self.items) c.in-Some.part.now first.now second.now
    (pushed (λ e. e.now) rest c.loop-part.left.items c.in-Some.part c.in-Some.ensures.items)
    (pushed (λ e. e.now) rest mid second c.in_ok-push-in-Some-operands_of_and.ensures.items)
    (pushed (λ e. e.now) mid c.push-in-Some-operands_of_and-2.new.self.items first c.in_ok-push-in-Some-operands_of_and-2.ensures.items)
    c.in-Some-operands_of_and.ensures.operands

pub loop-part-preserved-in_ok-push-in-Some-operands_of_and-2 : goal.loop-part-preserved-in_ok-push-in-Some-operands_of_and-2
loop-part-preserved-in_ok-push-in-Some-operands_of_and-2 c =
    let rest = c.pop.new.self.items in let mid = c.push-in-Some-operands_of_and.new.self.items in
    let first = c.in-Some-operands_of_and.first in let second = c.in-Some-operands_of_and.second in
    ap (λ ds. c.loop-part.found.items ++ ds)
    (apart_same (map (λ e. e.now) rest) (map (λ e. e.now) c.loop-part.left.items) (map (λ e. e.now) mid) (map (λ e. e.now) c.push-in-Some-operands_of_and-2.new.self.items) c.in-Some.part.now first.now second.now
    (pushed (λ e. e.now) rest c.loop-part.left.items c.in-Some.part c.in-Some.ensures.items)
    (pushed (λ e. e.now) rest mid second c.in_ok-push-in-Some-operands_of_and.ensures.items)
    (pushed (λ e. e.now) mid c.push-in-Some-operands_of_and-2.new.self.items first c.in_ok-push-in-Some-operands_of_and-2.ensures.items)
    c.in-Some-operands_of_and.ensures.operands)
    ∙ c.loop-part.invariant

pub loop-part-smaller : goal.loop-part-smaller
loop-part-smaller c =
    alone_fewer (map (λ e. e.now) c.pop.new.self.items) (map (λ e. e.now) c.loop-part.left.items) c.in-Some.part.now
    (pushed (λ e. e.now) c.pop.new.self.items c.loop-part.left.items c.in-Some.part c.in-Some.ensures.items)

pub loop-part-preserved : goal.loop-part-preserved
loop-part-preserved c =
    alone_found c.loop-part.found.items c.push-in-None.new.self.items (map (λ e. e.now) c.pop.new.self.items) (map (λ e. e.now) c.loop-part.left.items) (conjuncts_of c.args.expr.now) c.in-Some.part.now c.in_ok-clone-in-None.field-0
    (pushed (λ e. e.now) c.pop.new.self.items c.loop-part.left.items c.in-Some.part c.in-Some.ensures.items)
    (c.in-None.ensures.alone refl) c.in_ok-clone-in-None.ensures.cases c.in_ok-push-in-None.ensures.items c.loop-part.invariant

pub returns : goal.returns
returns c =
    let none : c.loop-part.left.items ≡ [] = search rules in
    none_left (λ e. e.now) c.loop-part.left.items c.loop-part.found.items (conjuncts_of c.args.expr.now) none c.loop-part.invariant
