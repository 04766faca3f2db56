use Rattle.std.proofs.Common.{◌≡◌, ◌+◌, ◌*◌, ◌∷◌, [], ◌++◌, List, get_or, drop, refl, ◌∙◌, sym, ap, arith}
use Rattle.std.proofs.lemmas.List.{append_assoc, append-nil}
use Rattle.vx_words.specs.Truths.{kept_items}
use Rattle.vx_words.proofs.KeptLemmas.{kept_nothing}
use Rattle.vx_words.proofs.NextLemmas.{true_seen, true_within}
use Rattle.vx_words.proofs.LowestLemmas.{lowest, without_lowest, rest_later, lowest_within, kept_first, kept_last, true_there, rest_is_rest, kept_next}
use Rattle.vx_words.proofs.truths.Truths.kept.Goals as goal

pub bits-init : goal.bits-init
bits-init g c =
    let seen = true_seen _ _ _ _ c.words-2.ensures.truths c.words-2.ensures.tidy in (
      λ j lo small. refl,
      ap (λ ys. c.words.kept.items ++ ys)
          (sym (kept_first c.args.items.now c.args.self.now c.words-2.result.1.now c.words.k seen _ refl (c.type_inv.truths c.words.k).fits))
          ∙ c.words.invariant,
    )

pub offset_bounds-items-k : goal.offset_bounds-items-k
offset_bounds-items-k g c =
    let seen = true_seen _ _ _ _ c.words-2.ensures.truths c.words-2.ensures.tidy in
    let set = true_there c.args.items.now c.args.self.now c.words-2.result.1.now c.words.k seen c.bits.word (c.bits.auto.word-fits.fits) c.bits-test.true c.bits.invariant.0 in
    let inside = true_within _ _ _ _ c.words-2.ensures.truths c.words-2.ensures.tidy _ set in
    omega (arith, c.requires)

pub bounds-items-k : goal.bounds-items-k
bounds-items-k g c =
    let seen = true_seen _ _ _ _ c.words-2.ensures.truths c.words-2.ensures.tidy in
    let set = true_there c.args.items.now c.args.self.now c.words-2.result.1.now c.words.k seen c.bits.word (c.bits.auto.word-fits.fits) c.bits-test.true c.bits.invariant.0 in
    let inside = true_within _ _ _ _ c.words-2.ensures.truths c.words-2.ensures.tidy _ set in
    omega (arith, c.requires)

pub bits-smaller : goal.bits-smaller
bits-smaller g c =
    let later = rest_later c.bits.word (c.bits.auto.word-fits.fits) c.bits-test.true in
    let within = lowest_within c.bits.word (c.bits.auto.word-fits.fits) c.bits-test.true in
    omega arith

pub bits-preserved : goal.bits-preserved
bits-preserved g c =
    let xs = c.args.items.now in
    let ks = c.args.self.now in
    let b = c.words-2.result.1.now in
    let k = c.words.k in
    let word = c.bits.word in
    let x = c.index-items-k.result in
    let fits = c.bits.auto.word-fits.fits in
    let seen = true_seen _ _ _ _ c.words-2.ensures.truths c.words-2.ensures.tidy in
    let inside = true_within _ _ _ _ c.words-2.ensures.truths c.words-2.ensures.tidy _ (true_there xs ks b k seen word fits c.bits-test.true c.bits.invariant.0) in
    let place : k * 64 + lowest word ≡ 64 * k + lowest word = omega arith in
    let there : get_or xs (64 * k + lowest word) x ≡ x = ap (λ i. get_or xs i x) (sym place) ∙ sym c.index-items-k.is in
    let rest : List _ = kept_items (drop (64 * k + lowest (without_lowest word)) xs) (drop (64 * k + lowest (without_lowest word)) ks) in (
      rest_is_rest xs ks b k seen word fits c.bits-test.true c.bits.invariant.0,
      ap (λ ys. ys ++ rest) c.in_ok-push.ensures.items
          ∙ append_assoc c.bits.kept.items (x ∷ []) rest
          ∙ ap (λ ys. c.bits.kept.items ++ ys)
          (sym (kept_next xs ks b k seen word fits c.bits-test.true c.bits.invariant.0 x (omega (arith, c.requires)) there))
          ∙ c.bits.invariant.1,
    )

pub words-preserved : goal.words-preserved
words-preserved g c =
    let seen = true_seen _ _ _ _ c.words-2.ensures.truths c.words-2.ensures.tidy in
    ap (λ ys. c.bits.kept.items ++ ys)
    (sym (kept_last c.args.items.now c.args.self.now c.words-2.result.1.now c.words.k seen c.bits.word c.bits.invariant.0 c.bits-test.false))
    ∙ c.bits.invariant.1

pub returns : goal.returns
returns g c =
    let long = c.words-2.ensures.tidy.values_length in
    sym (append-nil c.words.kept.items)
    ∙ ap (λ ys. c.words.kept.items ++ ys) (sym (kept_nothing c.args.items.now c.args.self.now (64 * c.words.k) (omega arith)))
    ∙ c.words.invariant
