use Rattle.std.proofs.Common.{map}
use Rattle.vx_dtype.specs.TypeViews.{type_view}
use Rattle.vx_arrays.proofs.ToldLemmas.{columns_asked}
use Rattle.vx_calls.proofs.arrays.told_columns.Goals as goal

pub returns-in-Ok-clause-types : goal.returns-in-Ok-clause-types
returns-in-Ok-clause-types c =
    (columns_asked (map type_view c.args.types.now) c.args.rows c.args.body.now c.args.buffers.now 0 c.in-Ok.columns.items c.in-Ok.ensures).0

pub returns-in-Ok-clause-rows : goal.returns-in-Ok-clause-rows
returns-in-Ok-clause-rows c =
    (columns_asked (map type_view c.args.types.now) c.args.rows c.args.body.now c.args.buffers.now 0 c.in-Ok.columns.items c.in-Ok.ensures).1
