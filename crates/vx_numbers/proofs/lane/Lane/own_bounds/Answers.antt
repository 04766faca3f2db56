use Rattle.std.proofs.Common.{◌∙◌, sym, ap}
use Rattle.vx_numbers.specs.Bounds.{least_number, greatest_number}
use Rattle.vx_numbers.proofs.NullCounts.{all_known}
use Rattle.vx_numbers.proofs.lane.Lane.own_bounds.Goals as goal

pub returns-then-null_count-eq0-clause-least : goal.returns-then-null_count-eq0-clause-least
returns-then-null_count-eq0-clause-least g c =
    let none = sym c.null_count.ensures ∙ c.if-null_count-eq0.true in
    c.value_bounds.ensures.least ∙ ap least_number (all_known g.T.Width.value c.parts.result.0.now c.parts.result.1.now c.args.self.now c.parts.ensures.numbers none)

pub returns-then-null_count-eq0-clause-greatest : goal.returns-then-null_count-eq0-clause-greatest
returns-then-null_count-eq0-clause-greatest g c =
    let none = sym c.null_count.ensures ∙ c.if-null_count-eq0.true in
    c.value_bounds.ensures.greatest ∙ ap greatest_number (all_known g.T.Width.value c.parts.result.0.now c.parts.result.1.now c.args.self.now c.parts.ensures.numbers none)
