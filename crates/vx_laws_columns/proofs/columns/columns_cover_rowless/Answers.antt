use Rattle.vx_laws_columns.proofs.Covered.{columns_cover_rowless}
use Rattle.vx_laws_columns.proofs.columns.columns_cover_rowless.Goals as goal

pub returns : goal.returns
returns c = columns_cover_rowless
