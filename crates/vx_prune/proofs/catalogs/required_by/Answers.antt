use Rattle.vx_prune.proofs.RequiredLemmas.{none_required, one_more_required}
use Rattle.vx_prune.proofs.catalogs.required_by.Goals as goal

pub loop-path-init : goal.loop-path-init
loop-path-init c = none_required c.new-required.result.map c.new-required.ensures.pairs

pub loop-path-preserved : goal.loop-path-preserved
loop-path-preserved c =
    one_more_required c.loop-path.required.map c.insert.new.self.map c.in-Some.path c.in-Some.stat c.loop-path.yielded c.in_ok-insert.ensures.ok c.loop-path.invariant
