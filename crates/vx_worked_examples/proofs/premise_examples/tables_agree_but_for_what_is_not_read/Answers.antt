use Rattle.vx_worked_examples.proofs.Premises.{tables_agree}
use Rattle.vx_worked_examples.proofs.premise_examples.tables_agree_but_for_what_is_not_read.Goals as goal

pub returns-clause-agree : goal.returns-clause-agree
returns-clause-agree c = tables_agree
