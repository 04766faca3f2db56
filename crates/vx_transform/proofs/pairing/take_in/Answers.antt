use Rattle.std.proofs.Common.{◌≡◌, length, sym, subst, ◌∙◌, rules}
use Rattle.vx_transform.specs.CodeViews.{reading_view, places_at}
use Rattle.vx_transform.specs.Pairs.{WaitsAt}
use Rattle.vx_transform.proofs.WaitLemmas.{on_ok, plain-made, plain-waits, behind-waits, none-waits, one-waits, stood-at, stood-within, is-set}
use Rattle.vx_transform.proofs.pairing.take_in.Goals as goal

pub returns-in_default-clause-made : goal.returns-in_default-clause-made
returns-in_default-clause-made c =
    let w = c.args.waiting.now in
    c.in_ok-push.ensures.items ∙ sym (plain-made c.args.conjunct c.args.made.now.items (places_at w.below) (places_at w.above) c.requires (sym c.in_default.ensures))

pub returns-in_default-clause-waits : goal.returns-in_default-clause-waits
returns-in_default-clause-waits c =
    let w = c.args.waiting.now in
    subst (WaitsAt (places_at w.below) (places_at w.above)) (sym c.in_ok-push.ensures.items)
    (plain-waits c.args.conjunct c.args.made.now.items (places_at w.below) (places_at w.above) c.requires (sym c.in_default.ensures))

pub put_range-requires : goal.put_range-requires
put_range-requires c =
    let w = c.args.waiting.now in
    let v = c.take_first.new.self in
    let made = c.args.made.now.items in
    let first = c.in-Some-take_first.ensures in
    let place = c.in-Some-take_first.place in
    let one = one-waits c.args.conjunct made (places_at w.below) (places_at w.above) c.requires (reading_view c.in-Some.bound) (sym c.in-Some.ensures)
    (places_at v.below) (places_at v.above) first.below first.above place (sym first.first) in
    stood-within c.args.conjunct made place one.0

pub returns-in-Some-take_first-clause-made : goal.returns-in-Some-take_first-clause-made
returns-in-Some-take_first-clause-made c =
    let w = c.args.waiting.now in
    let v = c.take_first.new.self in
    let made = c.args.made.now.items in
    let first = c.in-Some-take_first.ensures in
    let place = c.in-Some-take_first.place in
    let one = one-waits c.args.conjunct made (places_at w.below) (places_at w.above) c.requires (reading_view c.in-Some.bound) (sym c.in-Some.ensures)
    (places_at v.below) (places_at v.above) first.below first.above place (sym first.first) in
    on_ok c.put_range.result (λ s. s ∙ sym (is-set c.args.conjunct made place one.0))
    (c.put_range.ensures one.0.was one.0.became (stood-at c.args.conjunct made place one.0) one.0.makes)

pub returns-in-Some-take_first-clause-waits : goal.returns-in-Some-take_first-clause-waits
returns-in-Some-take_first-clause-waits c =
    let w = c.args.waiting.now in
    let v = c.take_first.new.self in
    let made = c.args.made.now.items in
    let first = c.in-Some-take_first.ensures in
    let place = c.in-Some-take_first.place in
    let one = one-waits c.args.conjunct made (places_at w.below) (places_at w.above) c.requires (reading_view c.in-Some.bound) (sym c.in-Some.ensures)
    (places_at v.below) (places_at v.above) first.below first.above place (sym first.first) in
    on_ok c.put_range.result (λ s. subst (WaitsAt (places_at v.below) (places_at v.above)) (sym (s ∙ sym (is-set c.args.conjunct made place one.0))) one.1)
    (c.put_range.ensures one.0.was one.0.became (stood-at c.args.conjunct made place one.0) one.0.makes)

pub returns-clause-made : goal.returns-clause-made
returns-clause-made c =
    let w = c.args.waiting.now in
    let v = c.take_first.new.self in
    let made = c.args.made.now.items in
    let first = c.in_default-take_first.ensures in
    let none = none-waits c.args.conjunct made (places_at w.below) (places_at w.above) c.requires (reading_view c.in-Some.bound) (sym c.in-Some.ensures)
    (places_at v.below) (places_at v.above) first.below first.above (sym first.first) in
    c.in_ok-push-2.ensures.items ∙ sym none.0

pub returns-clause-waits : goal.returns-clause-waits
returns-clause-waits c =
    let w = c.args.waiting.now in
    let v = c.take_first.new.self in
    let u = c.add.new.self in
    let made = c.args.made.now.items in
    let first = c.in_default-take_first.ensures in
    let none = none-waits c.args.conjunct made (places_at w.below) (places_at w.above) c.requires (reading_view c.in-Some.bound) (sym c.in-Some.ensures)
    (places_at v.below) (places_at v.above) first.below first.above (sym first.first) in
    let count : c.len.result ≡ length made = search rules in
    subst (WaitsAt (places_at u.below) (places_at u.above)) (sym c.in_ok-push-2.ensures.items)
    (behind-waits c.args.conjunct made (places_at v.below) (places_at v.above) none.1 (reading_view c.in-Some.bound) (sym c.in-Some.ensures)
    (places_at u.below) (places_at u.above) c.len.result count c.in_ok-add.ensures.below c.in_ok-add.ensures.above)
