use Rattle.std.proofs.Common.{◌≡◌, ◌∙◌, sym}
use Rattle.vx_words.specs.Truths.{truths_of_words}
use Rattle.vx_texts.proofs.ComparisonLemmas.{known_tidy, nulls_seen}
use Rattle.vx_texts.proofs.texts.Texts.is_null.Goals as goal

pub of_words-known-requires : goal.of_words-known-requires
of_words-known-requires c =
    rw (c.in_ok-from_slice.ensures.items, c.in_ok-words.ensures.items)
    (known_tidy c.parts.result.0.now c.parts.result.1.now c.len.result c.args.self.now (sym c.len.ensures) c.parts.ensures.texts c.parts.ensures.tidy)

pub returns : goal.returns
returns c =
    let v = c.parts.result.0.now in
    let made : c.of_words-known.result ≡ truths_of_words v v c.len.result =
    ◌∙◌ {b = truths_of_words c.in_ok-from_slice.field-0.items c.in_ok-words.words.items c.len.result} c.of_words-known.ensures
    (λ k. truths_of_words (c.in_ok-from_slice.ensures.items k) (c.in_ok-words.ensures.items k) c.len.result) in
    nulls_seen v c.parts.result.1.now c.len.result c.args.self.now (sym c.len.ensures) c.parts.ensures.texts c.parts.ensures.tidy
    c.of_words-known.result c.in_ok-nulls.nulls made c.in_ok-nulls.ensures
