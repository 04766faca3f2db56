use Rattle.vx_dtype.specs.RawViews.{raw_view}
use Rattle.vx_kernels.proofs.LookupLemmas.{keys_moved}
use Rattle.vx_kernels.proofs.lookups.sorted_keys.Goals as goal

pub returns : goal.returns
returns c =
    keys_moved (raw_view c.args.list.now) _ _ _ c.elements_of.ensures c.in_ok-keys.ensures c.new.ensures
