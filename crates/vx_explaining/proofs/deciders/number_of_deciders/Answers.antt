use Rattle.std.proofs.Common.{sym}
use Rattle.std.proofs.lemmas.List.{length-map}
use Rattle.vx_explaining.specs.ExplainedViews.{decider_view}
use Rattle.vx_explaining.proofs.deciders.number_of_deciders.Goals as goal

pub returns : goal.returns
returns c = sym (length-map c.args.deciders.now decider_view)
