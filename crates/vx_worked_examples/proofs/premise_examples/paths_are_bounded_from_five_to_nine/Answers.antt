use Rattle.vx_worked_examples.proofs.Premises.{paths_are_bounded, range_is_bounded}
use Rattle.vx_worked_examples.proofs.premise_examples.paths_are_bounded_from_five_to_nine.Goals as goal

pub returns-clause-bounded : goal.returns-clause-bounded
returns-clause-bounded c = paths_are_bounded

pub returns-clause-negated_range : goal.returns-clause-negated_range
returns-clause-negated_range c = range_is_bounded
