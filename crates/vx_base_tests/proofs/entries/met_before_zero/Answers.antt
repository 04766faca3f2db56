use Rattle.std.proofs.Common.{suc, ◌∙◌}
use Rattle.vx_base_tests.specs.Numbers.{number_height}
use Rattle.vx_base_tests.proofs.EntryLemmas.{visit-written}
use Rattle.vx_base_tests.proofs.entries.met_before_zero.Goals as goal

pub returns : goal.returns
returns c = c.into_numbers.ensures ∙ visit-written (suc (number_height c.args.tree.now)) c.empty_log-log.result c.args.tree.now c.accept.result c.in_ok-accept.field-0 c.accept.new.visitor c.empty_log-log.ensures c.in_ok-accept.was c.accept.ensures
