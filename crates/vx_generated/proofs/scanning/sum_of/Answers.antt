use Rattle.std.proofs.Common.{◌∙◌, to_z, of_z, ◌+◌, ◌*◌, ◌<◌, ◌+ℤ◌, ◌≤ℤ◌, ℤ, neg_ℤ, pos, sym, ap, subst, length, ◌^◌, FitsSigned, arith, rules}
use Rattle.std.proofs.lemmas.Int.{to_z-of_z}
use Rattle.vx_generated.proofs.SumLemmas.{fits_at, long-so, wide-so, more-sum, sum-wide, more-above, more-below}
use Rattle.vx_generated.proofs.scanning.sum_of.Goals as goal

pub number_of-sum-requires : goal.number_of-sum-requires
number_of-sum-requires c = fits_at c.args.values.now c.loop-value.value-index c.value-item.result c.requires c.loop-value-test.true c.value-item.is

pub overflow_add-sum : goal.overflow_add-sum
overflow_add-sum c =
    let fit = fits_at c.args.values.now c.loop-value.value-index c.value-item.result c.requires c.loop-value-test.true c.value-item.is in
    let long = long-so c.value-item.result c.number_of-sum.result fit c.number_of-sum.ensures in
    let long_list : length c.args.values.now < 2 ^ 64 = search rules in
    let here = c.loop-value-test.true in
    let few : c.loop-value.value-index < 18446744073709551616 = omega arith in
    subst (λ (n : ℤ). FitsSigned mir.Syntax.w128 ((to_z mir.Syntax.w128 c.loop-value.sum-bits) +ℤ n)) (sym (to_z-of_z mir.Syntax.w128 c.number_of-sum.result (wide-so c.number_of-sum.result long)))
    (sum-wide c.loop-value.value-index (to_z mir.Syntax.w128 c.loop-value.sum-bits) c.number_of-sum.result few c.loop-value.invariant.above c.loop-value.invariant.below long)

pub loop-value-preserved : goal.loop-value-preserved
loop-value-preserved c =
    let i = c.loop-value.value-index in
    let fit = fits_at c.args.values.now i c.value-item.result c.requires c.loop-value-test.true c.value-item.is in
    let long = long-so c.value-item.result c.number_of-sum.result fit c.number_of-sum.ensures in
    let long_list : length c.args.values.now < 2 ^ 64 = search rules in
    let here = c.loop-value-test.true in
    let few : i < 18446744073709551616 = omega arith in
    let number = to_z-of_z mir.Syntax.w128 c.number_of-sum.result (wide-so c.number_of-sum.result long) in
    let fits = sum-wide i (to_z mir.Syntax.w128 c.loop-value.sum-bits) c.number_of-sum.result few c.loop-value.invariant.above c.loop-value.invariant.below long in
    let whole = ap (λ (n : ℤ). to_z mir.Syntax.w128 (of_z mir.Syntax.w128 ((to_z mir.Syntax.w128 c.loop-value.sum-bits) +ℤ n))) number ∙ to_z-of_z mir.Syntax.w128 ((to_z mir.Syntax.w128 c.loop-value.sum-bits) +ℤ c.number_of-sum.result) fits in
    record {
      sum = whole ∙ more-sum c.args.values.now i c.value-item.result (to_z mir.Syntax.w128 c.loop-value.sum-bits) c.number_of-sum.result c.loop-value-test.true c.value-item.is c.loop-value.invariant.sum c.number_of-sum.ensures;
      above = subst (λ (n : ℤ). neg_ℤ (pos ((i + 1) * 9223372036854775808)) ≤ℤ n) (sym whole) (more-above i (to_z mir.Syntax.w128 c.loop-value.sum-bits) c.number_of-sum.result c.loop-value.invariant.above long);
      below = subst (λ (n : ℤ). n ≤ℤ pos ((i + 1) * 9223372036854775808)) (sym whole) (more-below i (to_z mir.Syntax.w128 c.loop-value.sum-bits) c.number_of-sum.result c.loop-value.invariant.below long);
    }
