use Rattle.std.proofs.Common.{◌∙◌, sym, ap}
use Rattle.std.specs.Option.{option_map}
use Rattle.std.specs.Prelude.{◌-ℤ◌}
use Rattle.vx_numbers.specs.Numbers.{differences}
use Rattle.vx_numbers.specs.LaneViews.{list_of}
use Rattle.vx_numbers.proofs.RangeLemmas.{made_in_range, totals_seen}
use Rattle.vx_numbers.proofs.numbers.Numbers.checked_sub.Goals as goal

pub returns-in_default : goal.returns-in_default
returns-in_default c =
    ap (option_map list_of) (sym c.in_default.is) ∙ c.in_ok-lanes.ensures
    ∙ totals_seen (λ a b. a -ℤ b) _ _ c.args.self.now c.args.other.now c.self.view_is c.other.view_is

pub invariant_of-result : goal.invariant_of-result
invariant_of-result c =
    let l = list_of c.self.inside.lanes in
    let r = list_of c.other.inside.lanes in
    made_in_range l.ptype (differences l.numbers r.numbers) (list_of c.in-Some.lanes) (ap (option_map list_of) (sym c.in-Some.is) ∙ c.in_ok-lanes.ensures)

pub returns : goal.returns
returns c =
    ap (option_map list_of) (sym c.in-Some.is) ∙ c.in_ok-lanes.ensures
    ∙ totals_seen (λ a b. a -ℤ b) _ _ c.args.self.now c.args.other.now c.self.view_is c.other.view_is
