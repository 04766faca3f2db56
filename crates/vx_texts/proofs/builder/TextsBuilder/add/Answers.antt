use Rattle.std.proofs.Common.{option_copied, ◌∙◌, ap, arith}
use Rattle.vx_texts.specs.Texts.{byte_total}
use Rattle.vx_texts.specs.Layouts.{text_of}
use Rattle.vx_texts.proofs.PlaceLemmas.{pushed_seen}
use Rattle.vx_texts.proofs.builder.TextsBuilder.add.Goals as goal

pub push-requires-clause-words : goal.push-requires-clause-words
push-requires-clause-words c = c.self.invariant.0.valid_length

pub push-requires-clause-few : goal.push-requires-clause-few
push-requires-clause-few c =
    let total = c.self.invariant.1 in
    let whole = ap byte_total c.self.view_is in
    omega (arith, total, whole, c.bytes_of-bytes.ensures.count, c.requires)

pub invariant_of-self-2 : goal.invariant_of-self-2
invariant_of-self-2 c =
    (pushed_seen c.self.inside.valid.items _ c.self.inside.values _ c.is_some-known.result c.bytes_of-bytes.result.now (option_copied c.args.text) c.args.self.now c.self.view_is c.self.invariant
    c.in_ok-push.ensures.bits (ap (λ b. text_of b c.bytes_of-bytes.result.now) c.is_some-known.ensures ∙ c.bytes_of-bytes.ensures.text) c.bytes_of-bytes.ensures.count
    c.in_ok-push.ensures.lengths c.requires c.in_ok-push.ensures.texts).0

pub returns-clause-pushed : goal.returns-clause-pushed
returns-clause-pushed c =
    (pushed_seen c.self.inside.valid.items _ c.self.inside.values _ c.is_some-known.result c.bytes_of-bytes.result.now (option_copied c.args.text) c.args.self.now c.self.view_is c.self.invariant
    c.in_ok-push.ensures.bits (ap (λ b. text_of b c.bytes_of-bytes.result.now) c.is_some-known.ensures ∙ c.bytes_of-bytes.ensures.text) c.bytes_of-bytes.ensures.count
    c.in_ok-push.ensures.lengths c.requires c.in_ok-push.ensures.texts).1
