use Rattle.std.proofs.Common.{ap}
use Rattle.vx_dtype.specs.TypeRules.{is_int_ty}
use Rattle.vx_column.proofs.NumberLemmas.{int_names}
use Rattle.vx_column.proofs.columns.ColumnRef.of_shared_numbers.Goals as goal

pub invariant_of-result : goal.invariant_of-result
invariant_of-result c = (c.requires, int_names _ (ap is_int_ty c.requires.kind))
