use Rattle.std.proofs.Common.{◌≡◌, ◌∷◌, ◌++◌, [], get_or, Some, None, arith, ◌∙◌, sym, ap}
use Rattle.std.specs.Option.{option_map}
use Rattle.vx_numbers.specs.Numbers.{total_in}
use Rattle.vx_numbers.proofs.RangeLemmas.{totals_more, totals_stop, totals_all}
use Rattle.vx_numbers.proofs.lane.Lane.cast.Goals as goal

pub places-preserved : goal.places-preserved
places-preserved g c =
    let u = g.U.Width.value in
    let p = g.U.Width.ptype in
    let ns = c.args.self.now in
    let i = c.places.i in
    let seen : Some (option_map u c.in-Some.number) ≡ total_in p (get_or ns i None) =
    ap (option_map (option_map u)) (sym c.in-Some.is) ∙ c.cast_number.ensures ∙ ap (total_in p) c.value_at.ensures in
    let more = totals_more p ns i (option_map u c.in-Some.number) (omega arith) seen c.places.invariant.2 in
    (c.in_ok-push-in-Some.ensures.tidy, c.in_ok-push-in-Some.ensures.numbers ∙ ap (λ ms. ms ++ option_map u c.in-Some.number ∷ []) c.places.invariant.1 ∙ more.0, more.1)

pub returns-in-None : goal.returns-in-None
returns-in-None g c =
    let u = g.U.Width.value in
    let p = g.U.Width.ptype in
    let ns = c.args.self.now in
    let i = c.places.i in
    let seen : None ≡ total_in p (get_or ns i None) =
    ap (option_map (option_map u)) (sym c.in-None.is) ∙ c.cast_number.ensures ∙ ap (total_in p) c.value_at.ensures in
    totals_stop p ns i (omega arith) seen

pub returns : goal.returns
returns g c = totals_all g.U.Width.ptype c.args.self.now c.places.i _ (omega arith) (c.in_ok-lane.ensures ∙ c.places.invariant.1) c.places.invariant.2
