use Rattle.std.proofs.Common.{◌≡◌, subst, IfOk}
use Rattle.vx_block_pruning.proofs.RuleLemmas.{rule-evaluable, rule-truths, rule-none}
use Rattle.vx_block_pruning.proofs.rules.PruningRule.rules_out.Goals as goal

pub pruned-requires-clause-available : goal.pruned-requires-clause-available
pruned-requires-clause-available c = c.requires.rule.1.available

pub pruned-requires-clause-evaluable : goal.pruned-requires-clause-evaluable
pruned-requires-clause-evaluable c =
    let rule = c.requires.rule in
    rule-evaluable c.args.zones.now c.args.slots.now rule.0 c.args.self.now rule.1 rule.2 c.in-Some.pruning c.in-Some.is

pub returns-in-Some : goal.returns-in-Some
returns-in-Some c = λ filter h fit.
    subst (λ ruled. IfOk c.pruned.result (λ flags. flags.items ≡ ruled))
    (rule-truths c.args.zones.now c.args.slots.now filter c.args.self.now h fit c.args.first c.args.count c.in-Some.pruning c.in-Some.is) c.pruned.ensures

pub returns-in-None : goal.returns-in-None
returns-in-None c = λ filter h fit.
    subst (λ ruled. IfOk c.none_of.result (λ flags. flags.items ≡ ruled))
    (rule-none c.args.zones.now c.args.slots.now filter c.args.self.now h fit c.args.first c.args.count c.in-None.is) c.none_of.ensures
