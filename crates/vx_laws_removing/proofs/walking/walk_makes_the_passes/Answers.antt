use Rattle.vx_laws_removing.proofs.Walked.{walk_makes_the_passes}
use Rattle.vx_laws_removing.proofs.walking.walk_makes_the_passes.Goals as goal

pub returns : goal.returns
returns c = walk_makes_the_passes
