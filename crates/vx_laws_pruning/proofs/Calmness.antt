-- Expressions without a sum, a difference or a cast: none of their nodes breaks.
use Rattle.std.proofs.Common.{◌≡◌, ℕ, zero, suc, refl, ap, ◌∙◌, Bool, true, false, ◌&&◌, ◌||◌, Option, Some, None, subst, List, [], ◌∷◌, ◌++◌}
use Rattle.std.specs.Prelude.{slice_get}
use Rattle.std.specs.Option.{option_and_then}
use Rattle.std.specs.List.{list_any}
use Rattle.std.proofs.lemmas.Bool.{and_parts, or_from}
use Rattle.std.proofs.lemmas.List.Folds.{list_any-append}
use Rattle.vx_dtype.specs.Types.{Ty}
use Rattle.vx_dtype.specs.Values.{Val}
use Rattle.vx_expr.specs.declared.Operator.{Operator}
use Rattle.vx_expr.specs.Trees.{Tree, root, literal, get_item, binary, dynamic, children_of}
use Rattle.vx_semantics.specs.Meaning.{Slots}
use Rattle.vx_semantics.specs.Breaks.{Cause, by_sum, by_cast, is_cause, break_of, breaks_by}
use Rattle.vx_semantics.specs.Nodes.{nodes_of, breaks_at_some, some_node_breaks}
use Rattle.vx_laws_pruning.specs.PruningTypes.{node_at}

-- whether an expression is the row, a constant, a field access, a comparison, a comparison with a slot or a connective, down to its leaves
abbrev pub is_calm : Tree → Bool
is_calm root = true
is_calm (literal s) = true
is_calm (get_item f e) = is_calm e
is_calm (binary l Operator.Add r) = false
is_calm (binary l Operator.Sub r) = false
is_calm (binary l op r) = is_calm l && is_calm r
is_calm (dynamic e op k t default) = is_calm e
is_calm _ = false

-- such a node does not break
calm-unbroken : (t : Ty) (slots : Slots) (row : Val) (e : Tree) → is_calm e ≡ true → break_of t slots row e ≡ None
calm-unbroken t slots row root h = refl
calm-unbroken t slots row (literal s) h = refl
calm-unbroken t slots row (get_item f e) h = refl
calm-unbroken t slots row (binary l Operator.Add r) h = let no : ⊥ = cc (h) in absurd no
calm-unbroken t slots row (binary l Operator.Sub r) h = let no : ⊥ = cc (h) in absurd no
calm-unbroken t slots row (binary l op r) h = refl
calm-unbroken t slots row (dynamic e op k u default) h = refl
calm-unbroken t slots row _ h = let no : ⊥ = cc (h) in absurd no

-- the children of such a node are such
calm-one : (e c : Tree) (i : ℕ) → is_calm e ≡ true → slice_get (e ∷ []) i ≡ Some c → is_calm c ≡ true
calm-one e c zero h k = let same : e ≡ c = cc in subst (λ (x : Tree). is_calm x ≡ true) same h
calm-one e c (suc i) h k = let no : ⊥ = cc in absurd no

calm-two : (l r c : Tree) (i : ℕ) → (is_calm l && is_calm r) ≡ true → slice_get (l ∷ r ∷ []) i ≡ Some c → is_calm c ≡ true
calm-two l r c zero h k = let same : l ≡ c = cc in subst (λ (x : Tree). is_calm x ≡ true) same (and_parts (is_calm l) (is_calm r) h).0
calm-two l r c (suc i) h k = calm-one r c i (and_parts (is_calm l) (is_calm r) h).1 k

calm-child : (e c : Tree) (i : ℕ) → is_calm e ≡ true → slice_get (children_of e) i ≡ Some c → is_calm c ≡ true
calm-child root c i h k = let no : ⊥ = cc (k) in absurd no
calm-child (literal s) c i h k = let no : ⊥ = cc (k) in absurd no
calm-child (get_item f e) c i h k = calm-one e c i h k
calm-child (binary l Operator.Add r) c i h k = let no : ⊥ = cc (h) in absurd no
calm-child (binary l Operator.Sub r) c i h k = let no : ⊥ = cc (h) in absurd no
calm-child (binary l op r) c i h k = calm-two l r c i h k
calm-child (dynamic e op n u default) c i h k = calm-one e c i h k
calm-child _ c i h k = let no : ⊥ = cc (h) in absurd no

-- no node of such an expression breaks
pub no_node_breaks : (t : Ty) (slots : Slots) (row : Val) (places : List ℕ) (e node : Tree) → is_calm e ≡ true → node_at places e ≡ Some node → break_of t slots row node ≡ None
no_node_breaks t slots row [] e node h k = let same : e ≡ node = cc in calm-unbroken t slots row node (subst (λ (x : Tree). is_calm x ≡ true) same h)
no_node_breaks t slots row (i ∷ places) e node h k = by-child (slice_get (children_of e) i) refl k (no_node_breaks t slots row places)
  where
    by-child : (o : Option Tree) → slice_get (children_of e) i ≡ o → option_and_then (node_at places) o ≡ Some node
        → ((x n : Tree) → is_calm x ≡ true → node_at places x ≡ Some n → break_of t slots row n ≡ None) → break_of t slots row node ≡ None
    by-child None j q r = let no : ⊥ = cc in absurd no
    by-child (Some c) j q r = r c node (calm-child e c i h j) q

no-cause : (c : Cause) → is_cause c None ≡ false
no-cause by_sum = refl
no-cause by_cast = refl

-- such a node breaks at no row by any cause
quiet-node : (c : Cause) (t : Ty) (slots : Slots) (rows : List Val) (e : Tree) → is_calm e ≡ true → breaks_at_some c t slots rows e ≡ false
quiet-node c t slots [] e h = refl
quiet-node c t slots (row ∷ rows) e h =
    or_from (breaks_by c t slots row e) (breaks_at_some c t slots rows e) (ap (is_cause c) (calm-unbroken t slots row e h) ∙ no-cause c) (quiet-node c t slots rows e h)

-- and no node of such an expression does
pub none_breaks : (c : Cause) (t : Ty) (slots : Slots) (rows : List Val) (e : Tree) → is_calm e ≡ true → some_node_breaks c t slots rows e ≡ false
unfolding nodes_of
none_breaks c t slots rows root h = or_from (breaks_at_some c t slots rows root) false (quiet-node c t slots rows root h) refl
none_breaks c t slots rows (literal s) h = or_from (breaks_at_some c t slots rows (literal s)) false (quiet-node c t slots rows (literal s) h) refl
none_breaks c t slots rows (get_item f e) h =
    or_from (breaks_at_some c t slots rows (get_item f e)) (some_node_breaks c t slots rows e) (quiet-node c t slots rows (get_item f e) h) (none_breaks c t slots rows e h)
none_breaks c t slots rows (binary l Operator.Add r) h = let no : ⊥ = cc (h) in absurd no
none_breaks c t slots rows (binary l Operator.Sub r) h = let no : ⊥ = cc (h) in absurd no
none_breaks c t slots rows (binary l op r) h =
    let parts = and_parts (is_calm l) (is_calm r) h in
    or_from (breaks_at_some c t slots rows (binary l op r)) (list_any (breaks_at_some c t slots rows) (nodes_of l ++ nodes_of r)) (quiet-node c t slots rows (binary l op r) h)
    (list_any-append (breaks_at_some c t slots rows) (nodes_of l) (nodes_of r)
    ∙ or_from (some_node_breaks c t slots rows l) (some_node_breaks c t slots rows r) (none_breaks c t slots rows l parts.0) (none_breaks c t slots rows r parts.1))
none_breaks c t slots rows (dynamic e op n u default) h =
    or_from (breaks_at_some c t slots rows (dynamic e op n u default)) (some_node_breaks c t slots rows e) (quiet-node c t slots rows (dynamic e op n u default) h) (none_breaks c t slots rows e h)
none_breaks c t slots rows _ h = let no : ⊥ = cc (h) in absurd no
