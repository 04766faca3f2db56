use Rattle.vx_shell.proofs.OrderedSteps.{first_seen, first_fit}
use Rattle.vx_shell.proofs.rows_in_order.wanted_rows.Goals as goal

pub returns-clause-rows : goal.returns-clause-rows
returns-clause-rows c = λ t. first_seen t c.args.left c.args.rows.now c.wanted_among.result c.wanted_among.ensures

pub returns-clause-fit : goal.returns-clause-fit
returns-clause-fit c = λ t h. first_fit t c.wanted_among.result c.args.rows.now h
