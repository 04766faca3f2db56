-- A pass that never refuses, and fields of packs.
use Rattle.std.proofs.Common.{◌≡◌, Bool, true, false, Option, None, Ok, Err, Result, refl, ap, sym, subst, ◌∙◌, true≢false}
use Rattle.std.specs.Prelude.{IfOk}
use Rattle.vx_dtype.specs.Types.{Bytes}
use Rattle.vx_expr.specs.Trees.{Tree, root, literal, get_item, binary, not_of, is_null_of, like, between, cast, list_contains, pack, merge, select, dynamic, Trees, no_trees, tree}
use Rattle.vx_semantics.specs.Typing.{Refusal, and_then}
use Rattle.vx_passes.specs.Rebuilding.{rebuilt, all_rebuilt}
use Rattle.vx_passes.specs.Replacing.{changed_by, all_changed_by}
use Rattle.vx_passes.specs.Simplifying.{known_field, field_of_pack}
use Rattle.vx_expr.specs.declared.errors.ExprError.{ExprError}
use Rattle.vx_expr.specs.Answers.{AnswersBy}
use Rattle.vx_expr.specs.Packed.{Packed, pack_tree}
use Rattle.vx_expr.specs.Children.{packed_field}
use Rattle.vx_transform.specs.declared.errors.TransformError.{TransformError}
use Rattle.vx_transform.specs.declared.errors.TransformError.TheVariants.{NoMemory, UnknownField, NotStruct, NullableSelect, TypeMismatch}
use Rattle.vx_transform.specs.TransformAnswers.{AnswersTree}
use Rattle.vx_transform.specs.Rebuilds.{OkOrNoMemory}

module _ (change : Tree → Tree) where
  -- the step that makes the change and never refuses
  abbrev pub always : Tree → Result Tree Refusal
  always e = Ok (change e)

  one : (r : Result Tree Refusal) (d : Tree) (node : Tree → Tree) → r ≡ Ok d → and_then r (λ a. always (node a)) ≡ Ok (change (node d))
  one r d node p = ap (λ o. and_then o (λ a. always (node a))) p

  two : (r q : Result Tree Refusal) (d c : Tree) (node : Tree → Tree → Tree) → r ≡ Ok d → q ≡ Ok c
      → and_then r (λ a. and_then q (λ b. always (node a b))) ≡ Ok (change (node d c))
  two r q d c node p k = ap (λ o. and_then o (λ a. and_then q (λ b. always (node a b)))) p ∙ one q c (node d) k

  three : (r q s : Result Tree Refusal) (d c b : Tree) (node : Tree → Tree → Tree → Tree) → r ≡ Ok d → q ≡ Ok c → s ≡ Ok b
      → and_then r (λ x. and_then q (λ y. and_then s (λ z. always (node x y z)))) ≡ Ok (change (node d c b))
  three r q s d c b node p k l = ap (λ o. and_then o (λ x. and_then q (λ y. and_then s (λ z. always (node x y z))))) p ∙ two q s c b (node d) k l

  mutual
    unfolding rebuilt changed_by

    -- where no step refuses the pass gives the changed expression
    pub changed : (e : Tree) → rebuilt always e ≡ Ok (changed_by change e)
    changed root = refl
    changed (literal s) = refl
    changed (get_item f e) = one (rebuilt always e) (changed_by change e) (get_item f) (changed e)
    changed (binary l op r) = two (rebuilt always l) (rebuilt always r) (changed_by change l) (changed_by change r) (λ a b. binary a op b) (changed l) (changed r)
    changed (not_of e) = one (rebuilt always e) (changed_by change e) not_of (changed e)
    changed (is_null_of e) = one (rebuilt always e) (changed_by change e) is_null_of (changed e)
    changed (like e p negated fold_case) =
        two (rebuilt always e) (rebuilt always p) (changed_by change e) (changed_by change p) (λ a b. like a b negated fold_case) (changed e) (changed p)
    changed (between e lower upper options) =
        three (rebuilt always e) (rebuilt always lower) (rebuilt always upper) (changed_by change e) (changed_by change lower) (changed_by change upper)
        (λ a b c. between a b c options) (changed e) (changed lower) (changed upper)
    changed (cast e t) = one (rebuilt always e) (changed_by change e) (λ a. cast a t) (changed e)
    changed (list_contains l v) = two (rebuilt always l) (rebuilt always v) (changed_by change l) (changed_by change v) list_contains (changed l) (changed v)
    changed (pack names es n) = ap (λ r. and_then r (λ ds. always (pack names ds n))) (all_changed es)
    changed (merge es n) = ap (λ r. and_then r (λ ds. always (merge ds n))) (all_changed es)
    changed (select s e) = one (rebuilt always e) (changed_by change e) (select s) (changed e)
    changed (dynamic e op k t default) = one (rebuilt always e) (changed_by change e) (λ a. dynamic a op k t default) (changed e)

    all_changed : (es : Trees) → all_rebuilt always es ≡ Ok (all_changed_by change es)
    all_changed no_trees = refl
    all_changed (tree e es) =
        ap (λ r. and_then r (λ d. and_then (all_rebuilt always es) (λ ds. Ok (tree d ds)))) (changed e)
        ∙ ap (λ r. and_then r (λ ds. Ok (tree (changed_by change e) ds))) (all_changed es)

-- whether there is an answer
abbrev has_answer : {X : Type 0} → Result X Refusal → Bool
has_answer (Ok x) = true
has_answer (Err r) = false

not_both : {X : Type 0} (r : Result X Refusal) (x : X) (e : Refusal) → r ≡ Ok x → r ≡ Err e → ⊥
not_both r x e p q = true≢false (sym (ap has_answer p) ∙ ap has_answer q)

-- what an answer is, and without one this
abbrev or_this : Tree → Result Tree Refusal → Tree
or_this e (Ok d) = d
or_this e (Err r) = e

same_answer : (told : Result Tree Refusal) (d e : Tree) → told ≡ Ok d → told ≡ Ok e → d ≡ e
same_answer told d e p q = sym (ap (or_this d) p) ∙ ap (or_this d) q

-- what the pass made is the changed expression
pub changed_made : {E : Type 0} (told : Result Tree Refusal) (d : Tree) (answer : Result Tree TransformError) (result : Result Tree E) → told ≡ Ok d → AnswersTree told answer
    → IfOk result (λ made. answer ≡ Ok made) → IfOk result (λ made. made ≡ d)
changed_made told d answer (Ok made) e h is = same_answer told made d (subst (AnswersTree told) is h) e
changed_made told d answer (Err r) e h is = tt

-- an answer of a pass that gives an expression is no refusal
pub never_refused : (told : Result Tree Refusal) (d : Tree) (answer : Result Tree TransformError) → told ≡ Ok d → AnswersTree told answer → OkOrNoMemory answer
never_refused told d (Ok made) e h = tt
never_refused told d (Err NoMemory) e h = tt
never_refused told d (Err UnknownField) e h = absurd (not_both told d _ e h)
never_refused told d (Err NotStruct) e h = absurd (not_both told d _ e h)
never_refused told d (Err NullableSelect) e h = absurd (not_both told d _ e h)
never_refused told d (Err TypeMismatch) e h = absurd (not_both told d _ e h)

-- ---- fields of packs

-- a field that is taken straight from a pack
pub field_taken : (e child : Tree) (f : Bytes) (p : Packed) (o : Option Tree) → get_item f child ≡ e → pack_tree p ≡ child → packed_field f p ≡ o
    → field_of_pack e ≡ known_field o
field_taken e child f p o is_item is_pack known =
    ap field_of_pack (sym is_item ∙ ap (get_item f) (sym is_pack)) ∙ ap known_field known

-- a name that no field of a pack has
pub no_field : (o : Option Tree) (e : ExprError) → e ≡ ExprError.UnknownField → AnswersBy (λ d. d) ExprError.UnknownField o (Err e) → o ≡ None
no_field o e is h = let known : (ExprError.UnknownField ≡ ExprError.UnknownField) × (o ≡ None) = subst (λ r. AnswersBy (λ (d : Tree). d) ExprError.UnknownField o (Err r)) is h in known.1
