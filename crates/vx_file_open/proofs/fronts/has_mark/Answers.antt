use Rattle.vx_file_open.proofs.FrontLemmas.{mark_decides}
use Rattle.vx_file_open.proofs.fronts.has_mark.Goals as goal

pub returns-clause-there : goal.returns-clause-there
returns-clause-there g c = mark_decides (g.R.Ranged.bytes c.args.source.now) c.in_ok-piece.piece.items c.as_slice.result.now c.as_bytes.result.now c.eq.result c.in_ok-piece.ensures.piece c.as_slice.ensures.value c.as_bytes.ensures.value c.eq.ensures
