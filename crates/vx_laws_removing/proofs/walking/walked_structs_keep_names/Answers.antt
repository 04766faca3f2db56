use Rattle.vx_laws_removing.proofs.Walked.{walked_structs_keep_names}
use Rattle.vx_laws_removing.proofs.walking.walked_structs_keep_names.Goals as goal

pub returns : goal.returns
returns c = walked_structs_keep_names
