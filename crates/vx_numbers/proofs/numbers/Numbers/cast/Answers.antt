use Rattle.std.proofs.Common.{◌∙◌, sym, ap}
use Rattle.std.specs.Option.{option_map}
use Rattle.vx_numbers.specs.Numbers.{NumberList, number_list, if_in_range}
use Rattle.vx_numbers.specs.LaneViews.{list_of}
use Rattle.vx_numbers.proofs.RangeLemmas.{made_in_range}
use Rattle.vx_numbers.proofs.numbers.Numbers.cast.Goals as goal

pub returns-in_default : goal.returns-in_default
returns-in_default c =
    ap (option_map list_of) (sym c.in_default.is) ∙ c.in_ok-lanes.ensures
    ∙ ap (λ (list : NumberList). option_map (number_list c.args.target) (if_in_range c.args.target list.numbers)) c.self.view_is

pub invariant_of-result : goal.invariant_of-result
invariant_of-result c =
    made_in_range c.args.target (list_of c.self.inside.lanes).numbers (list_of c.in-Some.lanes)
    (ap (option_map list_of) (sym c.in-Some.is) ∙ c.in_ok-lanes.ensures)

pub returns : goal.returns
returns c =
    ap (option_map list_of) (sym c.in-Some.is) ∙ c.in_ok-lanes.ensures
    ∙ ap (λ (list : NumberList). option_map (number_list c.args.target) (if_in_range c.args.target list.numbers)) c.self.view_is
