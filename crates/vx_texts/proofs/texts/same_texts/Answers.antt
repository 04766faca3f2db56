use Rattle.std.proofs.Common.{◌≡◌, length, None, refl, arith}
use Rattle.std.proofs.lemmas.List.{ext_get_or}
use Rattle.vx_texts.proofs.texts.same_texts.Goals as goal

pub returns : goal.returns
returns c =
    let long : length c.args.left.now ≡ length c.args.right.now = omega (arith, c.len.ensures.count, c.len-2.ensures.count, c.if-len.false) in
    (λ _. ext_get_or None c.args.left.now c.args.right.now long (λ i h. c.places.invariant i (omega (arith, c.len.ensures.count, c.len-i-end.ensures.count, c.places-test.false))), λ _. refl)
