use Rattle.std.proofs.Common.{◌<◌, ◌≤◌, List, Option, length, map, refl, ◌∙◌, sym, ap, arith}
use Rattle.std.proofs.lemmas.List.{length-map}
use Rattle.std.specs.Option.{option_map}
use Rattle.std.specs.Prelude.{ℤ}
use Rattle.vx_dtype.specs.declared.CompareOperator.TheVariants.{Gte, Lte}
use Rattle.vx_numbers.specs.Bounds.{first_number}
use Rattle.vx_numbers.specs.Lanes.{numbers_of}
use Rattle.vx_numbers.proofs.BoundLemmas.{first_all, first_more, first_number-none, gte_is_chain, lte_is_chain}
use Rattle.vx_numbers.proofs.PlaceLemmas.{length-numbers, null_there, number_there, value_read}
use Rattle.vx_numbers.proofs.bounds.known_bounds.Goals as goal
use Rattle.vx_numbers.proofs.bounds.known_bounds.Goals.{then-bit, else-bit}

pub places-preserved : goal.places-preserved
places-preserved g c =
    let f = g.T.Width.value in
    let v = c.args.valid.now in
    let xs = c.args.values.now in
    let i = c.places.i in
    let ns : List (Option ℤ) = numbers_of v (map f xs) in
    let mapped = length-map xs f in
    let long = length-numbers v (map f xs) in
    let low : i < length xs = omega arith in
    let within : i < length ns = omega arith in
    elim c.if-bit.branch [
      | then-bit w ↦
          let here = number_there v (map f xs) ns refl i c.bit.result (f w.index-values-i.result) within c.bit.ensures w.if-bit.true
          (value_read f xs i w.index-values-i.result low w.index-values-i.is) in (
            first_more Lte lte_is_chain ns i _ _ _ within
                (ap (option_map f) w.least-is ∙ w.first_known-least.ensures ∙ ap (first_number Lte (option_map f c.places.least)) here) c.places.invariant.0,
            first_more Gte gte_is_chain ns i _ _ _ within
                (ap (option_map f) w.greatest-is ∙ w.first_known-greatest.ensures ∙ ap (first_number Gte (option_map f c.places.greatest)) here) c.places.invariant.1,
          )
      | else-bit w ↦
          let here = null_there v (map f xs) ns refl i c.bit.result within c.bit.ensures w.if-bit.false in (
            first_more Lte lte_is_chain ns i _ _ _ within
                (ap (option_map f) w.least-is ∙ sym (first_number-none Lte (option_map f c.places.least)) ∙ ap (first_number Lte (option_map f c.places.least)) here) c.places.invariant.0,
            first_more Gte gte_is_chain ns i _ _ _ within
                (ap (option_map f) w.greatest-is ∙ sym (first_number-none Gte (option_map f c.places.greatest)) ∙ ap (first_number Gte (option_map f c.places.greatest)) here) c.places.invariant.1,
          )
    ]

pub returns-clause-least : goal.returns-clause-least
returns-clause-least g c =
    let f = g.T.Width.value in
    let ns : List (Option ℤ) = numbers_of c.args.valid.now (map f c.args.values.now) in
    let mapped = length-map c.args.values.now f in
    let long = length-numbers c.args.valid.now (map f c.args.values.now) in
    let past : length ns ≤ c.places.i = omega arith in
    first_all Lte lte_is_chain ns c.places.i _ _ past c.places.invariant.0

pub returns-clause-greatest : goal.returns-clause-greatest
returns-clause-greatest g c =
    let f = g.T.Width.value in
    let ns : List (Option ℤ) = numbers_of c.args.valid.now (map f c.args.values.now) in
    let mapped = length-map c.args.values.now f in
    let long = length-numbers c.args.valid.now (map f c.args.values.now) in
    let past : length ns ≤ c.places.i = omega arith in
    first_all Gte gte_is_chain ns c.places.i _ _ past c.places.invariant.1
