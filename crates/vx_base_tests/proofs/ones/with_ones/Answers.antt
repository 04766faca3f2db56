use Rattle.std.proofs.Common.{suc}
use Rattle.vx_base_tests.specs.Numbers.{number_height}
use Rattle.vx_base_tests.proofs.CallLemmas.{unless}
use Rattle.vx_base_tests.proofs.OneLemmas.{gives-ones}
use Rattle.vx_base_tests.proofs.ones.with_ones.Goals as goal

pub returns : goal.returns
returns c = unless c.rewrite.result _ _ (gives-ones (suc (number_height c.args.tree)) _ c.args.tree c.rewrite.result _) c.rewrite.ensures
