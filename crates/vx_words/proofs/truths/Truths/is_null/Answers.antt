use Rattle.std.proofs.Common.{◌≡◌, length, map, nat_lt, IfOk, ◌∙◌, ap, subst}
use Rattle.vx_dtype.specs.Logic.{not3, is_null3}
use Rattle.vx_words.specs.Truths.{truths_of_words, vals_of, words_for}
use Rattle.vx_words.proofs.ListLemmas.{known_tidy, known_nulls}
use Rattle.vx_words.proofs.truths.Truths.is_null.Goals as goal

pub of_words-requires : goal.of_words-requires
of_words-requires c =
    rw (c.len-2.ensures, c.in_ok-are_known.ensures.items)
    (known_tidy c.in_ok-known.known.items c.words.result.0.now c.words.result.1.now (length c.args.self.now) c.words.ensures.tidy
    (λ j. c.in_ok-known.ensures.bits j ∙ ap (nat_lt j) c.len.ensures) (c.in_ok-known.ensures.lengths ∙ ap words_for c.len.ensures))

pub returns : goal.returns
returns c =
    let known = c.in_ok-known.known.items in
    let made : c.of_words.result ≡ truths_of_words known c.words.result.0.now (length c.args.self.now) =
    c.of_words.ensures ∙ (λ k. truths_of_words known (c.in_ok-are_known.ensures.items k) (c.len-2.ensures k)) in
    subst (λ x. IfOk c.not-2.result (λ truths. vals_of truths ≡ x))
    (ap (λ x. map not3 (vals_of x)) made
    ∙ known_nulls known c.words.result.0.now c.words.result.1.now (length c.args.self.now) c.words.ensures.tidy
    (λ j. c.in_ok-known.ensures.bits j ∙ ap (nat_lt j) c.len.ensures)
    ∙ ap (λ x. map is_null3 (vals_of x)) c.words.ensures.truths)
    c.not-2.ensures
