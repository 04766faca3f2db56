use Rattle.std.proofs.Common.{sym}
use Rattle.std.proofs.lemmas.List.{length-map}
use Rattle.vx_explaining.specs.ExplainedViews.{column_view}
use Rattle.vx_explaining.proofs.columns.number_of.Goals as goal

pub returns : goal.returns
returns c = sym (length-map c.args.columns.now column_view)
