use Rattle.vx_column.proofs.TruthLemmas.{bool_names}
use Rattle.vx_column.proofs.columns.ColumnRef.of_shared_truths.Goals as goal

pub invariant_of-result : goal.invariant_of-result
invariant_of-result c = (c.requires, bool_names _ c.requires.kind)
