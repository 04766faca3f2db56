use Rattle.vx_dtype.specs.TypeViews.{type_view}
use Rattle.vx_column.proofs.SameLemmas.{hash_fed}
use Rattle.vx_column.proofs.equality.ColumnRefHash.hash.Goals as goal

pub returns : goal.returns
returns g c = hash_fed g.H.Hasher.write c.args.state.now c.hash.new.state c.write_usize.new.self c.feed_rows.new.state c.args.self.now (type_view c.dtype.result.now) c.len.result c.dtype.ensures.shown c.len.ensures c.hash.ensures c.write_usize.ensures c.feed_rows.ensures
