use Rattle.std.proofs.Common.{◌≡◌, ◌<◌, List, Option, Some, None, get_or, length, map, ◌∙◌, sym, ap, arith}
use Rattle.std.proofs.lemmas.List.{get_or-map, length-map}
use Rattle.std.specs.Prelude.{ℤ}
use Rattle.vx_dtype.specs.declared.CompareOperator.TheVariants.{Gte, Lte}
use Rattle.vx_numbers.specs.Bounds.{first_number}
use Rattle.vx_numbers.proofs.BoundLemmas.{first_more, gte_is_chain, lte_is_chain}
use Rattle.vx_numbers.proofs.bounds.value_bounds.Goals as goal

pub values-preserved : goal.values-preserved
values-preserved g c =
    let f = g.T.Width.value in
    let xs = c.args.values.now in
    let i = c.values.i in
    let x = c.index-values-i.result in
    let ns : List (Option ℤ) = map (λ x. Some (f x)) xs in
    let long : length ns ≡ length xs = length-map xs (λ x. Some (f x)) in
    let low : i < length xs = omega arith in
    let within : i < length ns = omega arith in
    let here : Some (f x) ≡ get_or ns i None = ap (λ y. Some (f y)) c.index-values-i.is ∙ sym (get_or-map (λ y. Some (f y)) xs i x None low) in (
      first_more Lte lte_is_chain ns i (Some (f c.values.least)) _ _ within (c.first-least.ensures ∙ ap (first_number Lte (Some (f c.values.least))) here) c.values.invariant.0,
      first_more Gte gte_is_chain ns i (Some (f c.values.greatest)) _ _ within (c.first-greatest.ensures ∙ ap (first_number Gte (Some (f c.values.greatest))) here) c.values.invariant.1,
    )
