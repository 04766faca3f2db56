-- Names that are added to a set, and the names of an expression from those of its node and its children.
use Rattle.std.proofs.Common.{◌≡◌, ℕ, List, [], ◌∷◌, ◌++◌, Bool, true, false, ◌||◌, cond, refl, ap, sym, ◌∙◌, subst, ◌+◌, drop}
use Rattle.std.specs.Prelude.{Some, slice_get}
use Rattle.std.specs.List.{flat_map}
use Rattle.std.specs.HashSet.{HashSet, Updates}
use Rattle.std.specs.Str.{bytes_eq}
use Rattle.std.proofs.lemmas.List.Folds.{list_any-append}
use Rattle.vx_dtype.specs.Types.{Bytes}
use Rattle.vx_dtype.specs.TypeRules.{has_name}
use Rattle.vx_dtype.specs.EqualLaws.{bytes_eq_equiv}
use Rattle.vx_expr.specs.Selections.{listed_names}
use Rattle.vx_expr.specs.Trees.{Tree, root, literal, get_item, binary, not_of, is_null_of, like, between, cast, list_contains, pack, merge, select, dynamic, Trees, no_trees, tree, listed, children_of}
use Rattle.vx_traversal.specs.References.{own_names, reference_names, names_in, AddsNames, HasExactly}
use Rattle.vx_traversal.proofs.Steps.{drop-next}

or_assoc : (a b c : Bool) → ((a || b) || c) ≡ (a || (b || c))
or_assoc true b c = refl
or_assoc false b c = refl

or_false : (a : Bool) → a ≡ (a || false)
or_false true = refl
or_false false = refl

-- nothing is added
pub adds-none : (held : List Bytes) → AddsNames [] held held
adds-none held name = or_false (has_name name held)

-- names that are added after others
pub adds-after : (xs ys a b c : List Bytes) → AddsNames xs a b → AddsNames ys b c → AddsNames (xs ++ ys) a c
adds-after xs ys a b c first second name =
    second name ∙ (ap (λ held. held || has_name name ys) (first name) ∙ (or_assoc (has_name name a) (has_name name xs) (has_name name ys)
    ∙ ap (λ both. has_name name a || both) (sym (list_any-append (bytes_eq name) xs ys))))

either : (a b held : Bool) → a ≡ b → cond a true held ≡ (held || (b || false))
either true true true e = refl
either true true false e = refl
either false false true e = refl
either false false false e = refl
either true false held e = cc
either false true held e = cc

-- a set with one more name
pub adds-one : {S : Type 0} (before after : HashSet Bytes S) (x : Bytes) → Updates bytes_eq before after x true → AddsNames (x ∷ []) before.keys after.keys
adds-one before after x updates name = updates.0 name ∙ either (bytes_eq x name) (bytes_eq name x) (has_name name before.keys) (bytes_eq_equiv.symm x name)

append_nil : (xs : List Bytes) → xs ++ [] ≡ xs
append_nil [] = refl
append_nil (x ∷ xs) = ap (λ ys. x ∷ ys) (append_nil xs)

names_listed : (es : Trees) → flat_map reference_names (listed es) ≡ names_in es
names_listed no_trees = refl
names_listed (tree e es) = ap (λ names. reference_names e ++ names) (names_listed es)

one_more : (l r : Tree) → reference_names l ++ (reference_names r ++ []) ≡ reference_names l ++ reference_names r
one_more l r = ap (λ names. reference_names l ++ names) (append_nil (reference_names r))

-- the names of an expression are the node's own and those of its children
pub names_of_node : (e : Tree) → own_names e ++ flat_map reference_names (children_of e) ≡ reference_names e
names_of_node root = refl
names_of_node (literal s) = refl
names_of_node (get_item f e) = ap (λ names. f ∷ names) (append_nil (reference_names e))
names_of_node (binary l op r) = one_more l r
names_of_node (not_of e) = append_nil (reference_names e)
names_of_node (is_null_of e) = append_nil (reference_names e)
names_of_node (like e p negated fold_case) = one_more e p
names_of_node (between e lower upper options) = ap (λ names. reference_names e ++ names) (one_more lower upper)
names_of_node (cast e t) = append_nil (reference_names e)
names_of_node (list_contains l v) = one_more l v
names_of_node (pack names es n) = names_listed es
names_of_node (merge es n) = names_listed es
names_of_node (select s e) = ap (λ names. listed_names s ++ names) (append_nil (reference_names e))
names_of_node (dynamic e op k t default) = append_nil (reference_names e)

-- the name at a place, and then the names after it
pub adds-drop : (names : List Bytes) (i : ℕ) (x : Bytes) (a b after : List Bytes) → slice_get names i ≡ Some x → AddsNames (x ∷ []) a b → AddsNames (drop (i + 1) names) b after → AddsNames (drop i names) a after
adds-drop names i x a b after at one rest = subst (λ ns. AddsNames ns a after) (sym (drop-next names i x at)) (adds-after (x ∷ []) (drop (i + 1) names) a b after one rest)

-- what is added to no names is all that a set has
pub has-exactly : {S : Type 0} (set : HashSet Bytes S) (names before after : List Bytes) → before ≡ [] → set.keys ≡ after → AddsNames names before after → HasExactly names set
has-exactly set names before after empty is adds name = ap (has_name name) is ∙ (adds name ∙ ap (λ held. has_name name held || has_name name names) empty)
