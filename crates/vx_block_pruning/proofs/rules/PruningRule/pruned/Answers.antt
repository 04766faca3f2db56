use Rattle.std.proofs.Common.{◌≡◌, ◌<◌, length, ◌∙◌, ap, subst, IfOk, arith}
use Rattle.vx_eval.specs.Scopes.{scope_rows, scope_slots}
use Rattle.vx_block_pruning.proofs.RulingLemmas.{gives-column, column-truths}
use Rattle.vx_block_pruning.proofs.rules.PruningRule.pruned.Goals as goal

pub evaluated-requires : goal.evaluated-requires
evaluated-requires c =
    let zones = c.args.zones.now in
    let blocks : 0 < length zones.lengths = omega (arith, c.requires.blocks, c.if-count-eq0.false) in
    gives-column zones c.args.slots.now c.args.pruning.now (scope_rows c.with_slots-scope.result) (scope_slots c.with_slots-scope.result) c.requires.evaluable blocks
    (ap (λ table. table.ty) (c.with_slots-scope.ensures.rows ∙ (c.new-2.ensures.rows ∙ c.in_ok-table.ensures))) (c.with_slots-scope.ensures.slots ∙ c.in_ok-copied.ensures)

pub returns : goal.returns
returns c =
    subst (λ truths. IfOk c.truths-2.result (λ flags. flags.items ≡ truths))
    (column-truths c.args.zones.now c.args.slots.now c.args.first c.args.count c.args.pruning.now (scope_rows c.with_slots-scope.result) (scope_slots c.with_slots-scope.result)
    c.in_ok-evaluated.field-0.rows (c.with_slots-scope.ensures.rows ∙ (c.new-2.ensures.rows ∙ c.in_ok-table.ensures)) (c.with_slots-scope.ensures.slots ∙ c.in_ok-copied.ensures)
    c.in_ok-evaluated.ensures.rows)
    c.truths-2.ensures
