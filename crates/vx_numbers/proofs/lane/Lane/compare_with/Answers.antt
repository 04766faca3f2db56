use Rattle.std.proofs.Common.{◌≡◌, length, map, Some, None, IfOk, rules, ◌∙◌, sym, ap, subst}
use Rattle.std.proofs.lemmas.Int.{to_z-of_z}
use Rattle.std.proofs.lemmas.List.{length-map}
use Rattle.std.specs.Prelude.{replicate}
use Rattle.vx_words.specs.Truths.{truths_of_words, words_for}
use Rattle.vx_numbers.specs.Numbers.{compared}
use Rattle.vx_numbers.proofs.ComparisonLemmas.{compared_with_tidy, compared_with_truths, compared_with_null}
use Rattle.vx_numbers.proofs.lane.Lane.compare_with.Goals as goal

pub returns-in_default : goal.returns-in_default
returns-in_default g c =
    let op = g.O.Operator.operator in
    let ns = c.args.self.now in
    subst (λ x. IfOk c.repeated.result (λ truths. truths ≡ x))
    (ap (λ n. replicate n None) c.len.ensures ∙ compared_with_null op ns ∙ ap (λ m. map (λ n. compared op n m) ns) (sym c.in_default.is))
    c.repeated.ensures

pub words_with-requires : goal.words_with-requires
words_with-requires g c = c.parts.ensures.tidy.valid_length ∙ ap words_for (length-map c.parts.result.1.now g.T.Width.value)

pub of_words-requires : goal.of_words-requires
of_words-requires g c =
    let f = g.T.Width.value in
    let zs = c.parts.result.1.now in
    rw c.in_ok-valid.ensures.items
    (compared_with_tidy g.O.Operator.operator c.parts.result.0.now c.in_ok-truths.truths.items
    (map f zs) (length zs) (f c.of_number.result) c.args.self.now (length-map zs f) c.parts.ensures.numbers c.parts.ensures.tidy c.in_ok-truths.ensures)

pub returns : goal.returns
returns g c =
    let f = g.T.Width.value in
    let op = g.O.Operator.operator in
    let zs = c.parts.result.1.now in
    let value = c.of_number.ensures ∙ to_z-of_z mir.Syntax.w128 c.in-Some.number (search rules) in
    let number : Some (f c.of_number.result) ≡ c.args.number = ap Some value ∙ sym c.in-Some.is in
    c.of_words.ensures
    ∙ ap (λ w. truths_of_words w c.in_ok-truths.truths.items (length zs)) c.in_ok-valid.ensures.items
    ∙ compared_with_truths op c.parts.result.0.now c.in_ok-truths.truths.items
    (map f zs) (length zs) (f c.of_number.result) c.args.self.now (length-map zs f) c.parts.ensures.numbers c.parts.ensures.tidy c.in_ok-truths.ensures
    ∙ ap (λ m. map (λ n. compared op n m) c.args.self.now) number
