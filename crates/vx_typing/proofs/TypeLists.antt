-- Refusals that are handed on, and children by their places.
use Rattle.std.proofs.Common.{◌≡◌, ℕ, zero, suc, ◌<◌, ◌≤◌, Some, Result, ap, arith}
use Rattle.std.specs.List.{slice_get}
use Rattle.std.proofs.lemmas.Option.{same_Some, none-some}
use Rattle.vx_expr.specs.Trees.{Tree, root, literal, get_item, binary, not_of, is_null_of, like, between, cast, list_contains, pack, merge, select, dynamic, Trees, no_trees, tree, listed, children_of}
use Rattle.vx_expr.specs.Heights.{height, highest}
use Rattle.vx_semantics.specs.Typing.{Refusal, and_then}
use Rattle.vx_typing.specs.declared.errors.TypeError.{TypeError}
use Rattle.vx_typing.specs.declared.errors.TypeError.TheVariants.{NoMemory, NotStruct, NullableSelect, UnknownField, DuplicateField, TypeMismatch}
use Rattle.vx_typing.specs.TypingAnswers.{Refuses}

-- a refusal is handed on by what comes after it
pub handed_on : {A B : Type 0} (told : Result A Refusal) (next : A → Result B Refusal) (e : TypeError) → Refuses told e → Refuses (and_then told next) e
handed_on told next NoMemory h = tt
handed_on told next NotStruct h = ap (λ r. and_then r next) h
handed_on told next NullableSelect h = ap (λ r. and_then r next) h
handed_on told next UnknownField h = ap (λ r. and_then r next) h
handed_on told next DuplicateField h = ap (λ r. and_then r next) h
handed_on told next TypeMismatch h = ap (λ r. and_then r next) h

-- ---- children by their places

lower_in : (es : Trees) (i : ℕ) (c : Tree) → slice_get (listed es) i ≡ Some c → height c ≤ highest es
lower_in no_trees i c at = absurd (none-some c at)
lower_in (tree e es) zero c at = let same : height e ≡ height c = ap height (same_Some e c at) in omega (arith, same)
lower_in (tree e es) (suc i) c at = omega (arith, lower_in es i c at)

-- a child is lower than its node
pub child_lower : (e c : Tree) (i : ℕ) → slice_get (children_of e) i ≡ Some c → height c < height e
child_lower root c i at = absurd (none-some c at)
child_lower (literal s) c i at = absurd (none-some c at)
child_lower (get_item f e) c i at = omega (arith, lower_in (tree e no_trees) i c at)
child_lower (binary l op r) c i at = omega (arith, lower_in (tree l (tree r no_trees)) i c at)
child_lower (not_of e) c i at = omega (arith, lower_in (tree e no_trees) i c at)
child_lower (is_null_of e) c i at = omega (arith, lower_in (tree e no_trees) i c at)
child_lower (like e p negated fold_case) c i at = omega (arith, lower_in (tree e (tree p no_trees)) i c at)
child_lower (between e lower upper options) c i at = omega (arith, lower_in (tree e (tree lower (tree upper no_trees))) i c at)
child_lower (cast e t) c i at = omega (arith, lower_in (tree e no_trees) i c at)
child_lower (list_contains l v) c i at = omega (arith, lower_in (tree l (tree v no_trees)) i c at)
child_lower (pack names es n) c i at = omega (arith, lower_in es i c at)
child_lower (merge es n) c i at = omega (arith, lower_in es i c at)
child_lower (select s e) c i at = omega (arith, lower_in (tree e no_trees) i c at)
child_lower (dynamic e op k t default) c i at = omega (arith, lower_in (tree e no_trees) i c at)
