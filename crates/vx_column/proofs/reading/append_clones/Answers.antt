use Rattle.vx_column.proofs.AppendLemmas.{appends_clones}
use Rattle.vx_column.proofs.reading.append_clones.Goals as goal

pub returns-clause-rows : goal.returns-clause-rows
returns-clause-rows c t f = appends_clones t _ _ c.args.rows.now f c.in_ok-extend_from_slice.ensures.items
