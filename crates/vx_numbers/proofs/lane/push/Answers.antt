use Rattle.std.proofs.Common.{◌++◌, ◌∷◌, [], map, ◌∙◌, ap, arith}
use Rattle.vx_numbers.specs.Lanes.{number_of, numbers_of}
use Rattle.vx_numbers.proofs.PlaceLemmas.{tidy_after_push, numbers_after_push}
use Rattle.vx_numbers.proofs.lane.push.Goals as goal

pub returns-clause-tidy : goal.returns-clause-tidy
returns-clause-tidy g c =
    tidy_after_push g.T.Width.value _ _ c.args.values.now.items _ c.len.result _ c.value_of.result c.requires
    (omega arith) c.in_ok-push_bit.ensures.bits c.in_ok-push.ensures.items c.in_ok-push_bit.ensures.lengths

pub returns-clause-numbers : goal.returns-clause-numbers
returns-clause-numbers g c =
    let f = g.T.Width.value in
    numbers_after_push f _ _ c.args.values.now.items _ c.len.result _ c.value_of.result c.requires
    (omega arith) c.in_ok-push_bit.ensures.bits c.in_ok-push.ensures.items
    ∙ ap (λ n. numbers_of c.args.valid.now.items (map f c.args.values.now.items) ++ n ∷ [])
    (ap (λ b. number_of b (f c.value_of.result)) c.is_some.ensures ∙ c.value_of.ensures)
