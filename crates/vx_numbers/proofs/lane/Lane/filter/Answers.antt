use Rattle.std.proofs.Common.{◌≡◌, length, map, Some, ◌∙◌, sym, ap, arith}
use Rattle.std.proofs.lemmas.List.{length-map}
use Rattle.std.specs.Prelude.{count_by}
use Rattle.std.specs.Simd.Lanes.{zip2}
use Rattle.vx_words.specs.Truths.{is_true, hidden_if, kept_items}
use Rattle.vx_numbers.specs.Numbers.{null_test}
use Rattle.vx_words.proofs.KeptLemmas.{kept_length}
use Rattle.vx_numbers.proofs.KeptNumbers.{known_values, kept_hidden, kept_known}
use Rattle.vx_numbers.proofs.PlaceLemmas.{length_seen}
use Rattle.vx_numbers.proofs.lane.Lane.filter.Goals as goal

pub kept-requires : goal.kept-requires
kept-requires g c =
    let long = length_seen _ _ _ c.parts.ensures.numbers in
    let mapped = length-map c.parts.result.1.now g.T.Width.value in
    omega (arith, c.requires)

pub returns-then-true_count-eq0 : goal.returns-then-true_count-eq0
returns-then-true_count-eq0 g c =
    let f = g.T.Width.value in
    known_values f c.in_ok-valid.valid.items c.in_ok-values.values.items _ _ _ c.in_ok-valid.ensures.bits (c.len.ensures ∙ c.in_ok-values.values.ok.0)
    c.in_ok-kept.ensures c.in_ok-values.ensures
    ∙ kept_known f c.parts.result.0.now c.parts.result.1.now c.args.self.now c.args.keep.now c.parts.ensures.numbers
    (ap (count_by is_true) (sym c.in_ok-nulls.ensures) ∙ sym c.true_count.ensures ∙ c.if-true_count-eq0.true)

pub mask-requires : goal.mask-requires
mask-requires g c =
    let f = g.T.Width.value in
    let xs = c.parts.result.1.now in
    let ns = c.args.self.now in
    let ks = c.args.keep.now in
    let known =
    known_values f c.in_ok-valid.valid.items c.in_ok-values.values.items _ _ _ c.in_ok-valid.ensures.bits (c.len.ensures ∙ c.in_ok-values.values.ok.0)
    c.in_ok-kept.ensures c.in_ok-values.ensures in
    let as_many : length (map null_test ns) ≡ length xs =
    length-map ns null_test ∙ length_seen c.parts.result.0.now (map f xs) ns c.parts.ensures.numbers ∙ length-map xs f in
    ap length (c.in_ok-hidden.ensures ∙ ap (λ ts. kept_items ts ks) c.in_ok-nulls.ensures)
    ∙ kept_length (map null_test ns) xs ks as_many
    ∙ sym (ap length known ∙ length-map (map f (kept_items xs ks)) Some ∙ length-map (kept_items xs ks) f)

pub returns : goal.returns
returns g c =
    let f = g.T.Width.value in
    let known =
    known_values f c.in_ok-valid.valid.items c.in_ok-values.values.items _ _ _ c.in_ok-valid.ensures.bits (c.len.ensures ∙ c.in_ok-values.values.ok.0)
    c.in_ok-kept.ensures c.in_ok-values.ensures in
    let hidden = c.in_ok-hidden.ensures ∙ ap (λ ts. kept_items ts c.args.keep.now) c.in_ok-nulls.ensures in
    c.in_ok-lane.ensures
    ∙ (λ k. zip2 hidden_if (known k) (hidden k))
    ∙ kept_hidden f c.parts.result.0.now c.parts.result.1.now c.args.self.now c.args.keep.now c.parts.ensures.numbers
