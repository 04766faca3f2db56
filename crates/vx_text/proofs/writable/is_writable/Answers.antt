use Rattle.std.proofs.Common.{◌+◌, ◌∷◌, ◌&&◌, not, ap, ◌∙◌, sym, map, drop}
use Rattle.std.specs.List.{list_all}
use Rattle.std.proofs.lemmas.List.{drop_all, drop_more}
use Rattle.vx_text.proofs.WritableLemmas.{is_static, writable_by_nodes}
use Rattle.vx_text.proofs.writable.is_writable.Goals as goal

pub loop-node-init : goal.loop-node-init
loop-node-init c =
    writable_by_nodes c.args.expr.now ∙ ap (list_all is_static) (sym (ap (map (λ e. e.now)) c.as_slice-node-items.ensures.value ∙ c.in_ok-nodes.ensures))

pub returns-then-is_dynamic : goal.returns-then-is_dynamic
returns-then-is_dynamic c =
    let all = c.as_slice-node-items.result.now in
    let i = c.loop-node.node-index in
    let behind = map (λ e. e.now) (drop (i + 1) all) in
    sym (c.loop-node.invariant ∙ ap (λ es. list_all is_static (map (λ e. e.now) es)) (drop_more all i c.node-item.result c.loop-node-test.true ∙ ap (λ e. e ∷ drop (i + 1) all) (sym c.node-item.is))
    ∙ ap (λ b. not b && list_all is_static behind) (sym c.is_dynamic.ensures ∙ c.if-is_dynamic.true))

pub loop-node-preserved : goal.loop-node-preserved
loop-node-preserved c =
    let all = c.as_slice-node-items.result.now in
    let i = c.loop-node.node-index in
    let behind = map (λ e. e.now) (drop (i + 1) all) in
    c.loop-node.invariant ∙ ap (λ es. list_all is_static (map (λ e. e.now) es)) (drop_more all i c.node-item.result c.loop-node-test.true ∙ ap (λ e. e ∷ drop (i + 1) all) (sym c.node-item.is))
    ∙ ap (λ b. not b && list_all is_static behind) (sym c.is_dynamic.ensures ∙ c.if-is_dynamic.false)

pub returns : goal.returns
returns c =
    sym (c.loop-node.invariant ∙ ap (λ es. list_all is_static (map (λ e. e.now) es)) (drop_all c.loop-node.node-index c.as_slice-node-items.result.now c.loop-node-test.false))
