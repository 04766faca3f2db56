use Rattle.vx_query.proofs.causes.wire_laws.Goals as goal

pub returns : goal.returns
returns c = record { spells = c.one_tree.ensures; builds = c.one_expression.ensures }
