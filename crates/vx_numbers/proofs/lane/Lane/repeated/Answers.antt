use Rattle.std.proofs.Common.{◌≡◌, map, ◌&&◌, nat_lt, ◌∙◌, sym, ap, subst}
use Rattle.std.specs.Option.{option_map}
use Rattle.std.specs.Prelude.{ℤ, replicate}
use Rattle.vx_numbers.specs.Lanes.{number_of, numbers_of, AreTidyNumbers}
use Rattle.vx_numbers.proofs.PlaceLemmas.{map-replicate, is_some-option_map, repeated_tidy, repeated_numbers}
use Rattle.vx_numbers.proofs.lane.Lane.repeated.Goals as goal

pub of_values-requires : goal.of_values-requires
of_values-requires g c =
    let f = g.T.Width.value in
    let n = c.args.len in
    let number = c.of_number-number.result in
    let z : ℤ = f c.value_of.result in
    let known = is_some-option_map f number in
    let made : map f c.in_ok-values.values.items ≡ replicate n z = ap (map f) c.in_ok-values.ensures ∙ map-replicate f n c.value_of.result in
    subst (λ zs. AreTidyNumbers c.in_ok-valid.valid.items zs) (sym made)
    (repeated_tidy c.in_ok-valid.valid.items n (option_map f number) z
    (ap (λ b. number_of b z) (sym known) ∙ c.value_of.ensures)
    (λ j. c.in_ok-valid.ensures.bits j ∙ ap (λ b. b && nat_lt j n) (c.is_some.ensures ∙ known))
    c.in_ok-valid.ensures.lengths)

pub returns : goal.returns
returns g c =
    let f = g.T.Width.value in
    let n = c.args.len in
    let number = c.of_number-number.result in
    let z : ℤ = f c.value_of.result in
    let known = is_some-option_map f number in
    let made : map f c.in_ok-values.values.items ≡ replicate n z = ap (map f) c.in_ok-values.ensures ∙ map-replicate f n c.value_of.result in
    c.in_ok-lane.ensures
    ∙ ap (numbers_of c.in_ok-valid.valid.items) made
    ∙ repeated_numbers c.in_ok-valid.valid.items n (option_map f number) z
    (ap (λ b. number_of b z) (sym known) ∙ c.value_of.ensures)
    (λ j. c.in_ok-valid.ensures.bits j ∙ ap (λ b. b && nat_lt j n) (c.is_some.ensures ∙ known))
    ∙ ap (replicate n) c.of_number-number.ensures
