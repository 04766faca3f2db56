use Rattle.vx_laws_parts.proofs.Outcomes.{preserved_columns, preserved_asked_columns}
use Rattle.vx_laws_parts.proofs.preserving.preserves_columns.Goals as goal

pub returns-clause-nodes : goal.returns-clause-nodes
returns-clause-nodes c = preserved_columns

pub returns-clause-asked : goal.returns-clause-asked
returns-clause-asked c = preserved_asked_columns
