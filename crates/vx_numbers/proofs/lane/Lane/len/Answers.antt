use Rattle.std.proofs.Common.{length, ap, arith}
use Rattle.std.proofs.lemmas.List.{length-map}
use Rattle.vx_numbers.proofs.PlaceLemmas.{length_seen}
use Rattle.vx_numbers.proofs.lane.Lane.len.Goals as goal

pub returns : goal.returns
returns g c =
    let long = length_seen _ _ _ c.self.view_is in
    let mapped = length-map c.self.inside.values.value.items g.T.Width.value in
    let read = ap (λ v. length v.items) c.deref.ensures in
    omega arith
