-- The lines below a node are those of its children in order, and a child is lower than its node.
use Rattle.std.proofs.Common.{◌≡◌, ℕ, zero, suc, ◌+◌, ◌<◌, ◌≤◌, ◌==◌, Bool, true, false, List, [], ◌∷◌, ◌++◌, length, drop, Some, refl, sym, ap, ◌∙◌, subst, append-nil, arith}
use Rattle.std.specs.List.{slice_get}
use Rattle.std.proofs.lemmas.Option.{none-some, same_Some}
use Rattle.vx_dtype.specs.Types.{Bytes}
use Rattle.vx_expr.specs.Heights.{height, highest}
use Rattle.vx_expr.specs.Trees.{Tree, root, literal, get_item, binary, not_of, is_null_of, like, between, cast, list_contains, pack, merge, select, dynamic, Trees, no_trees, trees_of, listed, children_of}
use Rattle.vx_expr.proofs.TreeLemmas.{trees_of_listed}
use Rattle.vx_display.specs.TreeTexts.{label, later_names, names_of, below_text, list_below}
use Rattle.vx_display.specs.TreeLines.{column, label_of, line}

-- the lines below a node are those of the list of its children
pub list_below_children : (prefix : Bytes) (names : List Bytes) (e : Tree) → list_below prefix names (trees_of (children_of e)) ≡ below_text prefix names e
unfolding below_text
list_below_children prefix names root = refl
list_below_children prefix names (literal s) = refl
list_below_children prefix names (get_item f e) = refl
list_below_children prefix names (binary l op r) = refl
list_below_children prefix names (not_of e) = refl
list_below_children prefix names (is_null_of e) = refl
list_below_children prefix names (like e p negated fold_case) = refl
list_below_children prefix names (between e lower upper options) = refl
list_below_children prefix names (cast e t) = refl
list_below_children prefix names (list_contains l v) = refl
list_below_children prefix names (pack fields es n) = ap (list_below prefix names) (trees_of_listed es)
list_below_children prefix names (merge es n) = ap (list_below prefix names) (trees_of_listed es)
list_below_children prefix names (select s e) = refl
list_below_children prefix names (dynamic e op k t default) = refl

pub label_at : (names : List Bytes) (i : ℕ) → label (drop i names) ≡ label_of (slice_get names i)
label_at [] zero = refl
label_at [] (suc i) = refl
label_at (name ∷ names) zero = refl
label_at (name ∷ names) (suc i) = label_at names i

later_names_at : (names : List Bytes) (i : ℕ) → later_names (drop i names) ≡ drop (suc i) names
later_names_at [] zero = refl
later_names_at [] (suc i) = refl
later_names_at (name ∷ names) zero = refl
later_names_at (name ∷ names) (suc i) = later_names_at names i

drop_from : (es : List Tree) (i : ℕ) (e : Tree) → slice_get es i ≡ Some e → drop i es ≡ e ∷ drop (suc i) es
drop_from [] i e h = absurd (none-some e h)
drop_from (d ∷ es) zero e h = λ j. same_Some d e h j ∷ es
drop_from (d ∷ es) (suc i) e h = drop_from es i e h

-- a child is the last one exactly where none is left behind it
none_behind : (es : List Tree) (i : ℕ) (e : Tree) → slice_get es i ≡ Some e → (suc i == length es) ≡ (length (drop (suc i) es) == 0)
none_behind [] i e h = absurd (none-some e h)
none_behind (d ∷ []) zero e h = refl
none_behind (d ∷ x ∷ es) zero e h = grind arith
none_behind (d ∷ es) (suc i) e h =
    let without_first : (suc (suc i) == suc (length es)) ≡ (suc i == length es) = grind arith in
    without_first ∙ none_behind es i e h

-- the lines of a list are those of the first expression and those of the others
first_lines : (prefix : Bytes) (names : List Bytes) (e : Tree) (es : List Tree) (last : Bool) → last ≡ (length es == 0)
    → list_below prefix names (trees_of (e ∷ es))
    ≡ line prefix last (label names) e ++ (below_text (prefix ++ column last) (names_of e) e ++ list_below prefix (later_names names) (trees_of es))
unfolding below_text
first_lines prefix names e [] last h =
    subst (λ l. list_below prefix names (trees_of (e ∷ [])) ≡ line prefix l (label names) e ++ (below_text (prefix ++ column l) (names_of e) e ++ [])) (sym h)
    (ap (λ (s : Bytes). line prefix true (label names) e ++ s) (sym (append-nil (below_text (prefix ++ column true) (names_of e) e))))
first_lines prefix names e (d ∷ ds) last h =
    let more : last ≡ false = h ∙ (grind arith) in
    subst (λ l. list_below prefix names (trees_of (e ∷ d ∷ ds)) ≡ line prefix l (label names) e ++ (below_text (prefix ++ column l) (names_of e) e ++ list_below prefix (later_names names) (trees_of (d ∷ ds)))) (sym more) refl

-- the lines from a place on are those of the child there and those of the others
lines_from : (prefix : Bytes) (names : List Bytes) (es : List Tree) (i : ℕ) (e : Tree) (last : Bool) → slice_get es i ≡ Some e → last ≡ (suc i == length es)
    → list_below prefix (drop i names) (trees_of (drop i es))
    ≡ line prefix last (label_of (slice_get names i)) e ++ (below_text (prefix ++ column last) (names_of e) e ++ list_below prefix (drop (suc i) names) (trees_of (drop (suc i) es)))
lines_from prefix names es i e last h l =
    ap (λ ds. list_below prefix (drop i names) (trees_of ds)) (drop_from es i e h)
    ∙ first_lines prefix (drop i names) e (drop (suc i) es) last (l ∙ none_behind es i e h)
    ∙ ap (λ (s : Bytes). line prefix last s e ++ (below_text (prefix ++ column last) (names_of e) e ++ list_below prefix (later_names (drop i names)) (trees_of (drop (suc i) es)))) (label_at names i)
    ∙ ap (λ fs. line prefix last (label_of (slice_get names i)) e ++ (below_text (prefix ++ column last) (names_of e) e ++ list_below prefix fs (trees_of (drop (suc i) es)))) (later_names_at names i)

pub list_below_step : (prefix : Bytes) (names : List Bytes) (es : List Tree) (i : ℕ) (e : Tree) (last : Bool) → slice_get es i ≡ Some e → last ≡ (i + 1 == length es)
    → list_below prefix (drop i names) (trees_of (drop i es))
    ≡ line prefix last (label_of (slice_get names i)) e ++ (below_text (prefix ++ column last) (names_of e) e ++ list_below prefix (drop (i + 1) names) (trees_of (drop (i + 1) es)))
list_below_step prefix names es i e last h l =
    let next : i + 1 ≡ suc i = omega arith in
    lines_from prefix names es i e last h (l ∙ ap (λ k. k == length es) next)
    ∙ ap (λ k. line prefix last (label_of (slice_get names i)) e ++ (below_text (prefix ++ column last) (names_of e) e ++ list_below prefix (drop k names) (trees_of (drop k es)))) (sym next)

pub list_below_end : (prefix : Bytes) (names : List Bytes) → list_below prefix names no_trees ≡ []
unfolding below_text
list_below_end prefix names = refl

at_most_highest : (es : List Tree) (i : ℕ) (c : Tree) → slice_get es i ≡ Some c → height c ≤ highest (trees_of es)
at_most_highest [] i c h = absurd (none-some c h)
at_most_highest (e ∷ es) zero c h = let same : height e ≡ height c = ap height (same_Some e c h) in omega (arith, same)
at_most_highest (e ∷ es) (suc i) c h = omega (arith, at_most_highest es i c h)

listed_lower : (es : Trees) (i : ℕ) (c : Tree) → slice_get (listed es) i ≡ Some c → height c ≤ highest es
listed_lower es i c h = subst (λ ds. height c ≤ highest ds) (trees_of_listed es) (at_most_highest (listed es) i c h)

pub child_is_lower : (e : Tree) (i : ℕ) (c : Tree) → slice_get (children_of e) i ≡ Some c → height c < height e
child_is_lower root i c h = absurd (none-some c h)
child_is_lower (literal s) i c h = absurd (none-some c h)
child_is_lower (get_item f e) i c h = omega (arith, at_most_highest (e ∷ []) i c h)
child_is_lower (binary l op r) i c h = omega (arith, at_most_highest (l ∷ r ∷ []) i c h)
child_is_lower (not_of e) i c h = omega (arith, at_most_highest (e ∷ []) i c h)
child_is_lower (is_null_of e) i c h = omega (arith, at_most_highest (e ∷ []) i c h)
child_is_lower (like e p negated fold_case) i c h = omega (arith, at_most_highest (e ∷ p ∷ []) i c h)
child_is_lower (between e lower upper options) i c h = omega (arith, at_most_highest (e ∷ lower ∷ upper ∷ []) i c h)
child_is_lower (cast e t) i c h = omega (arith, at_most_highest (e ∷ []) i c h)
child_is_lower (list_contains l v) i c h = omega (arith, at_most_highest (l ∷ v ∷ []) i c h)
child_is_lower (pack names es n) i c h = omega (arith, listed_lower es i c h)
child_is_lower (merge es n) i c h = omega (arith, listed_lower es i c h)
child_is_lower (select s e) i c h = omega (arith, at_most_highest (e ∷ []) i c h)
child_is_lower (dynamic e op k t default) i c h = omega (arith, at_most_highest (e ∷ []) i c h)
