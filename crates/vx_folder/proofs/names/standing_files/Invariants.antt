-- those that stand are the block files among the names so far
use Rattle.vx_folder.proofs.NameLemmas.{AreSoFar}
use Rattle.vx_folder.proofs.names.standing_files.Given as goal

abbrev pub invariant-loop-name : goal.invariant-loop-name
invariant-loop-name l = AreSoFar l.standing.keys l.yielded
