use Rattle.vx_laws_simplifying.proofs.RangedLaws.{ranges_columns, ranges_asked_columns}
use Rattle.vx_laws_simplifying.proofs.ranges.ranges_keep_columns.Goals as goal

pub returns-clause-along : goal.returns-clause-along
returns-clause-along c = ranges_columns

pub returns-clause-whole : goal.returns-clause-whole
returns-clause-whole c = ranges_asked_columns
