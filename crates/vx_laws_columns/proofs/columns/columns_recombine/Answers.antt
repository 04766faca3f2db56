use Rattle.vx_laws_columns.proofs.ByColumn.{columns_recombine}
use Rattle.vx_laws_columns.proofs.columns.columns_recombine.Goals as goal

pub returns : goal.returns
returns c = columns_recombine
