use Rattle.std.proofs.Common.{◌≡◌, length, map, ◌∙◌}
use Rattle.std.proofs.lemmas.List.{length-map}
use Rattle.vx_words.specs.Truths.{truths_of_words}
use Rattle.vx_numbers.proofs.ComparisonLemmas.{known_tidy, nulls_seen}
use Rattle.vx_numbers.proofs.lane.Lane.is_null.Goals as goal

pub of_words-known-requires : goal.of_words-known-requires
of_words-known-requires g c =
    let f = g.T.Width.value in
    let zs = c.parts.result.1.now in
    rw (c.in_ok-from_slice.ensures.items, c.in_ok-words.ensures.items)
    (known_tidy c.parts.result.0.now (map f zs) (length zs) c.args.self.now (length-map zs f) c.parts.ensures.numbers c.parts.ensures.tidy)

pub returns : goal.returns
returns g c =
    let f = g.T.Width.value in
    let v = c.parts.result.0.now in
    let zs = c.parts.result.1.now in
    let made : c.of_words-known.result ≡ truths_of_words v v (length zs) =
    ◌∙◌ {b = truths_of_words c.in_ok-from_slice.field-0.items c.in_ok-words.words.items (length zs)} c.of_words-known.ensures (λ k. truths_of_words (c.in_ok-from_slice.ensures.items k) (c.in_ok-words.ensures.items k) (length zs)) in
    nulls_seen v (map f zs) (length zs) c.args.self.now (length-map zs f) c.parts.ensures.numbers c.parts.ensures.tidy
    c.of_words-known.result c.in_ok-nulls.nulls made c.in_ok-nulls.ensures
