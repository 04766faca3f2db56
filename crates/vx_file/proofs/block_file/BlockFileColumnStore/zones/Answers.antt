use Rattle.vx_file.proofs.FileLemmas.{held_agrees, kept_file, kept_now}
use Rattle.vx_file.proofs.block_file.BlockFileColumnStore.zones.Goals as goal

pub returns-clause-agrees : goal.returns-clause-agrees
returns-clause-agrees g c = held_agrees c.args.self.now.header c.args.self.now.bytes (kept_file c.args.self.now (kept_now _ c.args.self.now c.self.view_is c.self.invariant))
