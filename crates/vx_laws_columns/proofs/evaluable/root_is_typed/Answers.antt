use Rattle.vx_laws_columns.proofs.RootType.{root_is_typed}
use Rattle.vx_laws_columns.proofs.evaluable.root_is_typed.Goals as goal

pub returns : goal.returns
returns c = root_is_typed
