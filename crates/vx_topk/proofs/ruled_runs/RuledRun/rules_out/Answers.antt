use Rattle.std.proofs.Common.{◌≡◌, ◌∙◌, ◌+◌, ◌<◌, ℕ, ap, length, arith}
use Rattle.vx_semantics.specs.Pruning.{rules_out}
use Rattle.vx_topk.proofs.RuledRunLemmas.{run-long, run-told, told-at}
use Rattle.vx_topk.proofs.ruled_runs.RuledRun.rules_out.Goals as goal

pub rules_out-requires-clause-rule : goal.rules_out-requires-clause-rule
rules_out-requires-clause-rule c = c.requires.rule

pub rules_out-requires-clause-blocks : goal.rules_out-requires-clause-blocks
rules_out-requires-clause-blocks c =
    let same = ap length c.lengths.ensures.lengths in
    let next = c.next_length.ensures in
    omega (arith, same, next, c.requires.block)

pub index-out-requires : goal.index-out-requires
index-out-requires c =
    let rule = c.requires.rule in
    let says = λ (n : ℕ). rules_out c.args.zones.now c.args.slots.now n rule.0 in
    let same = ap length c.lengths.ensures.lengths in
    let next = c.next_length.ensures in
    let long = run-long says c.args.block c.next_length.result c.in_ok-ruled.ruled.items (c.in_ok-ruled.ensures rule.0 rule.1 rule.2) in
    omega (arith, same, next, long, c.requires.block)

pub returns-in-Some : goal.returns-in-Some
returns-in-Some c filter h fit told = (c.in-Some.ensures (λ n. rules_out c.args.zones.now c.args.slots.now n filter) told, told)

pub returns : goal.returns
returns c filter h fit told =
    let says = λ (n : ℕ). rules_out c.args.zones.now c.args.slots.now n filter in
    let block = c.args.block in
    let count = c.next_length.result in
    let ruled = c.in_ok-ruled.ruled.items in
    let run = c.in_ok-ruled.ensures filter h fit in
    let same = ap length c.lengths.ensures.lengths in
    let next = c.next_length.ensures in
    let some : 0 < count = omega (arith, same, next, c.requires.block) in
    let there : block + 0 ≡ block = omega arith in
    (c.index-out.ensures ∙ told-at says block count ruled run 0 block c.index-out.result.now some there, run-told says block count ruled run)
