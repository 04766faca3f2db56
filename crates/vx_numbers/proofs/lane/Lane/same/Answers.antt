use Rattle.std.proofs.Common.{◌≡◌, length, get_or, None, true, refl, ◌∙◌, sym, ap, arith}
use Rattle.std.proofs.lemmas.List.{ext_get_or}
use Rattle.vx_numbers.specs.NumbersEqual.{number_decides}
use Rattle.vx_numbers.proofs.lane.Lane.same.Goals as goal

pub returns-then-not-same_number : goal.returns-then-not-same_number
returns-then-not-same_number g c = (
  λ n. cc,
  λ same.
      let alike : c.same_number.result ≡ true =
      c.same_number.ensures
      ∙ (number_decides _ _).1 (c.value_at.ensures ∙ ap (λ ns. get_or ns c.places.i None) same ∙ sym c.value_at-in-places.ensures) in
      cc,
)

pub returns : goal.returns
returns g c =
    let long : length c.args.self.now ≡ length c.args.other.now = omega arith in
    (λ _. ext_get_or None c.args.self.now c.args.other.now long (λ i h. c.places.invariant i (omega arith)), λ _. refl)
