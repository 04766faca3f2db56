use Rattle.vx_laws_writing.proofs.FileNames.{numbered_names_ascend}
use Rattle.vx_laws_writing.proofs.laws.numbered_names_ascend.Goals as goal

pub returns : goal.returns
returns c = numbered_names_ascend
