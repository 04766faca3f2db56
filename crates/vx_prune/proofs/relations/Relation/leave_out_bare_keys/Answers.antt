use Rattle.std.proofs.Common.{rules}
use Rattle.std.proofs.lemmas.Map.Made.{filter_same_pairs}
use Rattle.vx_prune.proofs.RelationLemmas.{has_value, pairs_stay, no_bare_left}
use Rattle.vx_prune.proofs.relations.Relation.leave_out_bare_keys.Goals as goal

pub returns-clause-pairs : goal.returns-clause-pairs
returns-clause-pairs g c =
    let left = filter_same_pairs _ (λ e. has_value e.1) _ (λ k v b w f' t. search rules) _ _ c.retain.ensures.filtered in
    pairs_stay g.met.K.Eq.laws c.args.self.now.map c.retain.new.self c.retain.ensures.was_unique left g.V.PartialEq.eq

pub returns-clause-values : goal.returns-clause-values
returns-clause-values g c =
    let left = filter_same_pairs _ (λ e. has_value e.1) _ (λ k v b w f' t. search rules) _ _ c.retain.ensures.filtered in
    no_bare_left g.met.K.Eq.laws c.args.self.now.map c.retain.new.self c.retain.ensures.was_unique left
