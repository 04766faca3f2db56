use Rattle.std.proofs.Common.{◌∙◌, ◌++◌, ◌∷◌, [], sym}
use Rattle.vx_arrays.specs.Arrays.{number_at}
use Rattle.vx_arrays.proofs.CellLemmas.{pushed_in_range}
use Rattle.vx_arrays.proofs.RangeLemmas.{cells_more}
use Rattle.vx_arrays.proofs.numbers.numbers_of.Goals as goal

pub loop-i-preserved : goal.loop-i-preserved
loop-i-preserved c =
    let p = c.args.p in (
      c.in_ok-push.ensures.items
          ∙ (λ j. c.loop-i.invariant.0 j ++ c.number_or_null.ensures.value j ∷ [])
          ∙ sym (cells_more c.args.validity.now (number_at p c.args.values.now) c.loop-i.i),
      pushed_in_range p c.loop-i.numbers.items c.push.new.self.items c.number_or_null.result c.in_ok-push.ensures.items c.loop-i.invariant.1
          c.number_or_null.ensures.range,
    )
