use Rattle.std.proofs.Common.{rules, ◌≡◌, ◌≤◌, ◌+◌, ◌==◌, ◌++◌, [], length, drop, refl, sym, ap, ◌∙◌, arith, Bool}
use Rattle.std.proofs.lemmas.List.{drop_all}
use Rattle.vx_dtype.proofs.PrintingLemmas.{has_begun_nothing, has_begun_more, has_written_begun}
use Rattle.vx_expr.specs.Trees.{trees_of, children_of}
use Rattle.vx_display.specs.TreeTexts.{below_text, list_below, names_of}
use Rattle.vx_display.specs.TreeLines.{prefix_text, column, label_of, line}
use Rattle.vx_display.proofs.TreeLemmas.{list_below_children, list_below_step, list_below_end, child_is_lower}
use Rattle.vx_display.proofs.PrefixLemmas.{prefix_text_below}
use Rattle.vx_display.proofs.trees.+below.Goals as goal

pub loop-i-init : goal.loop-i-init
loop-i-init g t c = has_begun_nothing _ _ _ _ (list_below_children (prefix_text c.args.prefix.now) (names_of c.args.expr.now) c.args.expr.now)

pub write_below-requires : goal.write_below-requires
write_below-requires g t c κs within =
    let lower = child_is_lower c.args.expr.now c.loop-i.i c.child_at-child.result.now c.child_at-child.ensures in
    (omega (arith, lower, c.decreases), search rules)

pub loop-i-preserved : goal.loop-i-preserved
loop-i-preserved g t c =
    let e = c.args.expr.now in
    let prefix = prefix_text c.args.prefix.now in
    let i = c.loop-i.i in
    let child = c.child_at-child.result.now in
    let last : Bool = i + 1 == c.children_count-count.result in
    let counted : c.children_count-count.result ≡ length (children_of e) = search rules in
    let ends : last ≡ (i + 1 == length (children_of e)) = ap (λ k. i + 1 == k) counted in
    let others = list_below prefix (drop (i + 1) (names_of e)) (trees_of (drop (i + 1) (children_of e))) in
    let rest = below_text (prefix ++ column last) (names_of child) child ++ others in
    let step = list_below_step prefix (names_of e) (children_of e) i child last c.child_at-child.ensures ends in
    let named = ap (λ name. line prefix last (label_of name) child ++ rest) (sym c.child_name.ensures) in λ plain.
    let begun = c.loop-i.invariant plain in
    let lined = has_begun_more _ _ _ _ _ _ _ _ (step ∙ named) begun (c.in_ok-write_line.ensures begun.1.plain refl) in
    has_begun_more _ _ _ _ _ _ _ _ (ap (λ columns. below_text columns (names_of child) child ++ others) (sym (prefix_text_below _ last))) lined (c.in_ok-write_below.ensures lined.1.plain refl)

pub returns : goal.returns
returns g t c = λ plain _.
    let e = c.args.expr.now in
    let prefix = prefix_text c.args.prefix.now in
    let i = c.loop-i.i in
    let past : length (children_of e) ≤ i = search rules in
    let none : list_below prefix (drop i (names_of e)) (trees_of (drop i (children_of e))) ≡ [] =
    ap (λ es. list_below prefix (drop i (names_of e)) (trees_of es)) (drop_all i (children_of e) past) ∙ list_below_end prefix (drop i (names_of e)) in
    has_written_begun _ _ _ _ _ none (c.loop-i.invariant plain)
