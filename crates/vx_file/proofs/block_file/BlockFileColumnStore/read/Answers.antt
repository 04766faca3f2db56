use Rattle.vx_file.proofs.ReadLemmas.{later_by_read}
use Rattle.vx_file.proofs.block_file.BlockFileColumnStore.read.Goals as goal

pub returns-clause-moves : goal.returns-clause-moves
returns-clause-moves g c =
    later_by_read c.args.self.now c.read_pair.new.self c.args.block c.args.name.now c.read_pair.result c.read_pair.ensures
