use Rattle.std.proofs.Common.{◌≡◌, ◌∙◌, true, cond, ap, subst}
use Rattle.std.proofs.lemmas.List.{take_all}
use Rattle.std.specs.HashSet.{contains}
use Rattle.std.specs.Str.{bytes_eq}
use Rattle.vx_dtype.specs.TypeRules.{has_name}
use Rattle.vx_explaining.proofs.TextLemmas.{one_more_name}
use Rattle.vx_explaining.proofs.columns.set_of.Goals as goal

pub loop-name-init : goal.loop-name-init
loop-name-init c = λ name. ap (has_name name) c.new-set.ensures.empty

pub loop-name-preserved : goal.loop-name-preserved
loop-name-preserved c =
    let l = c.loop-name in
    let e = c.name-item.result in
    one_more_name c.args.names.now l.name-index e l.set c.insert.new.self c.loop-name-test.true c.name-item.is l.invariant
    (λ name. c.in_ok-insert.ensures.updates.0 name ∙ ap (λ own. cond (bytes_eq own name) true (contains bytes_eq l.set name)) c.in_ok-clone.ensures.cases)

pub returns : goal.returns
returns c =
    let l = c.loop-name in
    λ name. subst (λ ns. contains bytes_eq l.set name ≡ has_name name ns) (take_all l.name-index c.args.names.now c.loop-name-test.false) (l.invariant name)
