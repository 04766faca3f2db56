use Rattle.std.proofs.Common.{suc, ◌∙◌}
use Rattle.vx_base_tests.specs.Numbers.{number_height}
use Rattle.vx_base_tests.specs.Zeros.{holds_zero}
use Rattle.vx_base_tests.proofs.CallLemmas.{unless, tells-zero, told-value}
use Rattle.vx_base_tests.proofs.zeros.holds_zero.Goals as goal

pub returns : goal.returns
returns c = c.value.ensures ∙ told-value c.fold.result c.in_ok-folded.folded (holds_zero c.args.tree) c.in_ok-folded.was (unless c.fold.result _ _ (tells-zero (suc (number_height c.args.tree)) _ tt c.args.tree c.fold.result _) c.fold.ensures)
