use Rattle.std.proofs.Common.{true, cond, ap, subst, ◌∙◌}
use Rattle.std.proofs.lemmas.List.{take_all}
use Rattle.std.specs.HashSet.{contains}
use Rattle.std.specs.List.{list_any}
use Rattle.std.specs.Str.{bytes_eq}
use Rattle.vx_partition.specs.Scopes.{HasJust}
use Rattle.vx_partition.proofs.ScopeLemmas.{one_more_name}
use Rattle.vx_partition.proofs.scope_access.set_of.Goals as goal

pub loop-name-init : goal.loop-name-init
loop-name-init c = λ w. ap (list_any (bytes_eq w)) c.new-set.ensures.empty

pub loop-name-preserved : goal.loop-name-preserved
loop-name-preserved c =
    one_more_name c.args.names.now c.loop-name.name-index c.name-item.result c.loop-name.set c.insert.new.self c.loop-name-test.true c.name-item.is c.loop-name.invariant
    (λ w. c.in_ok-insert.ensures.updates.0 w ∙ ap (λ v. cond (bytes_eq v w) true (contains bytes_eq c.loop-name.set w)) c.in_ok-clone.ensures.cases)

pub returns : goal.returns
returns c =
    subst (λ names. HasJust names c.loop-name.set) (take_all c.loop-name.name-index c.args.names.now c.loop-name-test.false) c.loop-name.invariant
