-- The texts of expressions behind their names, from a place on: that of the expression there and those behind it.
use Rattle.std.proofs.Common.{◌≡◌, ℕ, ◌+◌, ◌<◌, ◌≤◌, List, [], ◌∷◌, ◌++◌, length, drop, ap, ◌∙◌, refl, codes}
use Rattle.std.proofs.Math.ListN.{get_or}
use Rattle.std.proofs.lemmas.List.{drop_more, drop_all}
use Rattle.vx_dtype.specs.Types.{Bytes}
use Rattle.vx_expr.specs.Trees.{Tree, Trees, no_trees, tree, trees_of}
use Rattle.vx_expr.specs.CompactTexts.{compact_text, named_texts}

tree_at : (es : List Tree) (i : ℕ) (e : Tree) → i < length es → get_or es i e ≡ e → trees_of (drop i es) ≡ tree e (trees_of (drop (i + 1) es))
tree_at es i e h there = ap trees_of (drop_more es i e h) ∙ ap (λ d. tree d (trees_of (drop (i + 1) es))) there

pub named_texts_step : (before : Bytes) (names : List Bytes) (es : List Tree) (i : ℕ) (name : Bytes) (e : Tree) → i < length names → i < length es → get_or names i name ≡ name → get_or es i e ≡ e
    → named_texts before (drop i names) (trees_of (drop i es)) ≡ before ++ (name ++ (codes ": " ++ (compact_text e ++ named_texts (codes ", ") (drop (i + 1) names) (trees_of (drop (i + 1) es)))))
unfolding compact_text
named_texts_step before names es i name e k h named there =
    ap (λ ds. named_texts before (drop i names) ds) (tree_at es i e h there)
    ∙ ap (λ fs. named_texts before fs (tree e (trees_of (drop (i + 1) es)))) (drop_more names i name k ∙ ap (λ f. f ∷ drop (i + 1) names) named)

without_names : (before : Bytes) (es : Trees) → named_texts before [] es ≡ []
unfolding compact_text
without_names before no_trees = refl
without_names before (tree e es) = refl

without_trees : (before : Bytes) (names : List Bytes) → named_texts before names no_trees ≡ []
unfolding compact_text
without_trees before [] = refl
without_trees before (f ∷ fs) = refl

-- without a name, or without an expression, there is no text
pub named_texts_no_name : (before : Bytes) (names : List Bytes) (es : Trees) (i : ℕ) → length names ≤ i → named_texts before (drop i names) es ≡ []
named_texts_no_name before names es i h = ap (λ fs. named_texts before fs es) (drop_all i names h) ∙ without_names before es

pub named_texts_no_value : (before : Bytes) (names : List Bytes) (es : List Tree) (i : ℕ) → length es ≤ i → named_texts before names (trees_of (drop i es)) ≡ []
named_texts_no_value before names es i h = ap (λ ds. named_texts before names (trees_of ds)) (drop_all i es h) ∙ without_trees before names
