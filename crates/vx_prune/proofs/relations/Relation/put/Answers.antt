use Rattle.std.proofs.Common.{true, cond, ap, rules, ◌∙◌}
use Rattle.std.specs.HashSet.{contains}
use Rattle.std.specs.HashMap.Entry.{map_with_value}
use Rattle.vx_prune.proofs.RelationLemmas.{on_err, lent_set, has_pair-put, has_pair-kept, adds_no_bare}
use Rattle.vx_prune.proofs.relations.Relation.put.Goals as goal

pub returns-in_err-insert-clause-err : goal.returns-in_err-insert-clause-err
returns-in_err-insert-clause-err g c =
    let same_value = g.V.PartialEq.eq in
    let entry = c.in_ok-self.field-0 in
    on_err c.from_residual-in_err-insert.result c.from_residual-in_err-insert.ensures.0
    (has_pair-kept g.met.K.Eq.laws same_value c.args.self.now.map (map_with_value entry c.insert.new.self) c.self-3-1.given.0 c.args.k c.or_default-set.result.now c.insert.new.self
    (c.self-3-1.given.1 (search rules)) (c.in_ok-self.ensures.update.0 c.insert.new.self).0
    (lent_set same_value _ _ c.or_default-set.result.now c.in_ok-self.ensures.value c.or_default-set.ensures.value)
    c.in_err-insert.ensures.err)

pub returns-clause-ok : goal.returns-clause-ok
returns-clause-ok g c =
    let same_value = g.V.PartialEq.eq in
    let entry = c.in_ok-self.field-0 in
    has_pair-put g.met.K.Eq.laws same_value c.args.self.now.map (map_with_value entry c.insert.new.self) c.self-3-1.given.0 c.args.k c.or_default-set.result.now c.insert.new.self
    (c.self-3-1.given.1 (search rules)) (c.in_ok-self.ensures.update.0 c.insert.new.self).0
    (lent_set same_value _ _ c.or_default-set.result.now c.in_ok-self.ensures.value c.or_default-set.ensures.value)
    c.args.v c.in_ok-insert.ensures.updates.0

pub returns-clause-values : goal.returns-clause-values
returns-clause-values g c =
    let same_value = g.V.PartialEq.eq in
    let entry = c.in_ok-self.field-0 in
    let v = c.args.v in
    adds_no_bare g.met.K.Eq.laws same_value c.args.self.now.map (map_with_value entry c.insert.new.self) c.self-3-1.given.0 c.args.k c.or_default-set.result.now c.insert.new.self
    (c.self-3-1.given.1 (search rules)) (c.in_ok-self.ensures.update.0 c.insert.new.self).0
    (lent_set same_value _ _ c.or_default-set.result.now c.in_ok-self.ensures.value c.or_default-set.ensures.value)
    v (c.in_ok-insert.ensures.updates.0 v ∙ ap (λ b. cond b true (contains same_value c.or_default-set.result.now v)) (g.met.V.Eq.laws.refl v))
