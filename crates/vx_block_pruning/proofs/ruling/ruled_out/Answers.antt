use Rattle.std.proofs.Common.{◌≡◌, ◌∙◌, ℕ, List, ap, subst, length, IfOk, arith}
use Rattle.vx_semantics.specs.Pruning.{rules_out}
use Rattle.vx_block_pruning.specs.BlocksRuledOut.{run_ruled_out}
use Rattle.vx_block_pruning.proofs.RunLemmas.{numbered-run}
use Rattle.vx_block_pruning.proofs.ruling.ruled_out.Goals as goal

pub rules_out-requires-clause-rule : goal.rules_out-requires-clause-rule
rules_out-requires-clause-rule c = (c.args.filter.now, c.in_ok-rule.ensures, c.requires.slots)

pub rules_out-requires-clause-blocks : goal.rules_out-requires-clause-blocks
rules_out-requires-clause-blocks c = omega (arith, ap length c.lengths.ensures.lengths)

pub returns : goal.returns
returns c =
    let zones = c.args.zones.now in
    let slots = c.args.slots.now in
    let filter = c.args.filter.now in
    subst (λ ruled. IfOk c.rules_out.result (λ flags. flags.items ≡ ruled))
    (ap (λ (ns : List ℕ). run_ruled_out zones slots 0 (length ns) filter) c.lengths.ensures.lengths
    ∙ numbered-run (λ block. rules_out zones slots block filter) 0 zones.lengths)
    (c.rules_out.ensures filter c.in_ok-rule.ensures c.requires.slots)
