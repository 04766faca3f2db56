use Rattle.std.proofs.Common.{◌≡◌, [], suc, length, ap, sym, ◌∙◌, arith}
use Rattle.vx_passes.specs.Ranges.{with_ranges}
use Rattle.vx_transform.specs.Pairs.{all_taken_in}
use Rattle.vx_transform.proofs.PairLemmas.{all_taken_whole, own_rest, ranges_stand}
use Rattle.vx_transform.proofs.pairing.with_ranges.Goals as goal

pub loop-conjunct-smaller : goal.loop-conjunct-smaller
loop-conjunct-smaller c =
    let one : length c.loop-conjunct.left.items ≡ suc (length c.pop_front.new.self.items) = ap length c.in-Some.ensures.items in
    omega (arith, one)

pub loop-conjunct-preserved : goal.loop-conjunct-preserved
loop-conjunct-preserved c =
    let left = c.pop_front.new.self.items in
    let so_far = c.loop-conjunct.invariant.0 ∙ ap (all_taken_in c.loop-conjunct.made.items) c.in-Some.ensures.items in
    (so_far ∙ ap (λ made. all_taken_in made left) (sym c.in_ok-take_in.ensures.made), c.in_ok-take_in.ensures.waits)

pub returns-clause-ranges : goal.returns-clause-ranges
returns-clause-ranges c =
    let cs = c.args.conjuncts.items in
    let left : c.loop-conjunct.left.items ≡ [] =
    own_rest c.loop-conjunct.left.items c.pop_front.new.self.items c.in_default.ensures.items c.in_default.ensures.rest in
    sym (c.loop-conjunct.invariant.0 ∙ ap (all_taken_in c.loop-conjunct.made.items) left) ∙ all_taken_whole cs

pub returns-clause-without : goal.returns-clause-without
returns-clause-without c =
    let cs = c.args.conjuncts.items in
    let left : c.loop-conjunct.left.items ≡ [] =
    own_rest c.loop-conjunct.left.items c.pop_front.new.self.items c.in_default.ensures.items c.in_default.ensures.rest in
    let made : c.loop-conjunct.made.items ≡ with_ranges (length cs) cs = sym (c.loop-conjunct.invariant.0 ∙ ap (all_taken_in c.loop-conjunct.made.items) left) ∙ all_taken_whole cs in
    λ h. made ∙ ranges_stand (length cs) cs (sym (ap length made) ∙ h)
