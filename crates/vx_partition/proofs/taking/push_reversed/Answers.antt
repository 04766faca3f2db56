use Rattle.std.proofs.Common.{◌≡◌, ◌<◌, ◌+◌, ◌-◌, ◌++◌, ◌∷◌, drop, length, reverse, ap, sym, ◌∙◌, arith}
use Rattle.std.proofs.Math.ListN.{get_or}
use Rattle.std.proofs.lemmas.List.{drop_more}
use Rattle.vx_partition.proofs.TakeLemmas.{last_first}
use Rattle.vx_partition.proofs.taking.push_reversed.Goals as goal

pub loop-left-preserved : goal.loop-left-preserved
loop-left-preserved c =
    let numbers = c.args.numbers.now in
    let left = c.loop-left.left in
    let n = get_or numbers (left - 1) 0 in
    let within : left - 1 < length numbers = omega (arith, c.loop-left-test.true, c.loop-left.invariant.0) in
    let back : left - 1 + 1 ≡ left = omega (arith, c.loop-left-test.true) in (
      omega (arith, within),
      last_first c.loop-left.list.items c.push.new.self.items n c.in_ok-push.ensures.items
          ∙ ap (λ ns. n ∷ ns) (c.loop-left.invariant.1 ∙ ap (λ k. drop k numbers ++ reverse c.args.list.now.items) (sym back))
          ∙ ap (λ ns. ns ++ reverse c.args.list.now.items) (sym (drop_more numbers (left - 1) 0 within)),
    )
