use Rattle.std.proofs.Common.{◌≡◌, ◌∷◌, ◌++◌, [], length, get_or, Some, None, arith, ◌∙◌, sym, ap}
use Rattle.std.proofs.lemmas.Simd.{length-zip2, get_or-zip2}
use Rattle.std.specs.Option.{option_map}
use Rattle.std.specs.Simd.Lanes.{zip2}
use Rattle.vx_numbers.specs.Numbers.{on_both, total_in}
use Rattle.vx_numbers.proofs.RangeLemmas.{totals_more, totals_stop, totals_all}
use Rattle.vx_numbers.proofs.lane.Lane.totals.Goals as goal

pub places-preserved : goal.places-preserved
places-preserved g c =
    let f = g.T.Width.value in
    let p = g.T.Width.ptype in
    let rule = on_both g.O.Total.rule in
    let ls = c.args.self.now in
    let rs = c.args.other.now in
    let i = c.places.i in
    let ts = zip2 rule ls rs in
    let long : length ts ≡ length ls = length-zip2 rule ls rs (sym c.requires) in
    let at : get_or ts i None ≡ rule (get_or ls i None) (get_or rs i None) = get_or-zip2 rule ls rs i None None None (omega arith) (omega arith) in
    let seen : Some (option_map f c.in-Some.total) ≡ total_in p (get_or ts i None) =
    ap (option_map (option_map f)) (sym c.in-Some.is) ∙ c.total_of.ensures
    ∙ (λ k. total_in p (rule (c.value_at.ensures k) (c.value_at-in-places.ensures k))) ∙ ap (total_in p) (sym at) in
    let more = totals_more p ts i (option_map f c.in-Some.total) (omega arith) seen c.places.invariant.2 in
    (c.in_ok-push.ensures.tidy, c.in_ok-push.ensures.numbers ∙ ap (λ ns. ns ++ option_map f c.in-Some.total ∷ []) c.places.invariant.1 ∙ more.0, more.1)

pub returns-in_default : goal.returns-in_default
returns-in_default g c =
    let f = g.T.Width.value in
    let p = g.T.Width.ptype in
    let rule = on_both g.O.Total.rule in
    let ls = c.args.self.now in
    let rs = c.args.other.now in
    let i = c.places.i in
    let ts = zip2 rule ls rs in
    let long : length ts ≡ length ls = length-zip2 rule ls rs (sym c.requires) in
    let at : get_or ts i None ≡ rule (get_or ls i None) (get_or rs i None) = get_or-zip2 rule ls rs i None None None (omega arith) (omega arith) in
    let seen : None ≡ total_in p (get_or ts i None) =
    ap (option_map (option_map f)) (sym c.in_default.is) ∙ c.total_of.ensures
    ∙ (λ k. total_in p (rule (c.value_at.ensures k) (c.value_at-in-places.ensures k))) ∙ ap (total_in p) (sym at) in
    totals_stop p ts i (omega arith) seen

pub returns : goal.returns
returns g c =
    let rule = on_both g.O.Total.rule in
    let ls = c.args.self.now in
    let rs = c.args.other.now in
    let ts = zip2 rule ls rs in
    let long : length ts ≡ length ls = length-zip2 rule ls rs (sym c.requires) in
    totals_all g.T.Width.ptype ts c.places.i _ (omega arith) (c.in_ok-lane.ensures ∙ c.places.invariant.1) c.places.invariant.2
