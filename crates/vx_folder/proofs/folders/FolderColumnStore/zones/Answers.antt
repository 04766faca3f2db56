use Rattle.vx_folder.proofs.FolderLemmas.{held_agrees, kept_now}
use Rattle.vx_folder.proofs.folders.FolderColumnStore.zones.Goals as goal

pub returns-clause-agrees : goal.returns-clause-agrees
returns-clause-agrees g c = held_agrees c.args.self.now (kept_now _ c.args.self.now c.self.view_is c.self.invariant.2)
