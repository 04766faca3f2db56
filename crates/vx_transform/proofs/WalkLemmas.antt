-- The walk: packs whose values are taken, the structs that go into a merge, and the steps at a node.
use Rattle.std.proofs.Common.{◌≡◌, ◌==◌, ℕ, Bool, true, false, not, List, [], ◌∷◌, length, map, IfOk, IfSome, Option, Some, None, Ok, Err, Result, refl, ap, sym, subst, ◌∙◌}
use Rattle.std.specs.Prelude.{unwrap_or}
use Rattle.vx_dtype.specs.declared.Nullability.{Nullability}
use Rattle.vx_dtype.specs.declared.Nullability.TheVariants.{NonNullable}
use Rattle.vx_dtype.specs.TypeRules.{is_nullable}
use Rattle.vx_dtype.specs.Types.{Bytes, Ty}
use Rattle.vx_expr.specs.declared.FieldSelection.{FieldSelection}
use Rattle.vx_expr.specs.Children.{where_so}
use Rattle.vx_expr.specs.Selections.{names_where_known}
use Rattle.vx_expr.specs.Trees.{Tree, get_item, pack, merge, Trees, no_trees, tree, trees_of, listed, children_of}
use Rattle.vx_expr.proofs.TreeLemmas.{listed_trees_of}
use Rattle.vx_semantics.specs.Merging.{merged_names}
use Rattle.vx_semantics.specs.Typing.{Refusal, nullable_select, and_then, unless, typed_of}
use Rattle.vx_passes.specs.Simplifying.{field_of_pack}
use Rattle.vx_passes.specs.Selecting.{fields_pack}
use Rattle.vx_passes.specs.Merging.{Giving, giving_names, given_field, givings_pack}
use Rattle.vx_laws_removing.specs.Walking.{StructHead, head_of, fields_taken, pack_taken, select_by_head, giving_by_head, givings_by_head, walked_node, walked, passed}
use Rattle.vx_laws_removing.proofs.Walked.{walk_makes_the_passes}
use Rattle.vx_transform.specs.Rebuilds.{each, children_taken}
use Rattle.vx_transform.proofs.RebuildLemmas.{HasLength, each_length, with_as_many}

pub givings_each : (t : Ty) (es : List Tree) → givings_by_head t (trees_of es) ≡ each (giving_by_head t) es
givings_each t [] = refl
givings_each t (e ∷ es) = ap (λ r. and_then (giving_by_head t e) (λ g. and_then r (λ gs. Ok (g ∷ gs)))) (givings_each t es)

-- ---- packs whose values are taken

listed_more : (r : Result Tree Refusal) (rs : Result (List Tree) Refusal)
    → and_then r (λ d. and_then (and_then rs (λ ds. Ok (trees_of ds))) (λ ds. Ok (tree d ds)))
    ≡ and_then (and_then r (λ d. and_then rs (λ ds. Ok (d ∷ ds)))) (λ ds. Ok (trees_of ds))
listed_more (Ok d) (Ok ds) = refl
listed_more (Ok d) (Err e) = refl
listed_more (Err e) rs = refl

taken_each : (es : Trees) → fields_taken es ≡ and_then (each field_of_pack (listed es)) (λ ds. Ok (trees_of ds))
taken_each no_trees = refl
taken_each (tree e es) =
    ap (λ r. and_then (field_of_pack e) (λ d. and_then r (λ ds. Ok (tree d ds)))) (taken_each es) ∙ listed_more (field_of_pack e) (each field_of_pack (listed es))

with_values : (names : List Bytes) (n : Nullability) (other : Tree) (k : ℕ) (r : Result (List Tree) Refusal) → HasLength r k
    → and_then (and_then r (λ ds. Ok (trees_of ds))) (λ ds. Ok (pack names ds n))
    ≡ and_then r (λ ds. Ok (unwrap_or (where_so (length ds == k) (pack names (trees_of ds) n)) other))
with_values names n other k (Ok ds) h = ap Ok (sym (with_as_many (length ds) k (pack names (trees_of ds) n) other h))
with_values names n other k (Err e) h = refl

-- a pack with its values taken is the node with its children taken
pub pack_by_children : (names : List Bytes) (es : Trees) (n : Nullability) → pack_taken (pack names es n) ≡ children_taken (pack names es n)
pack_by_children names es n =
    ap (λ r. and_then r (λ ds. Ok (pack names ds n))) (taken_each es)
    ∙ with_values names n (pack names es n) (length (listed es)) (each field_of_pack (listed es)) (each_length field_of_pack (listed es))

same_pack : (p q : Tree) → pack_taken p ≡ children_taken p → ◌≡◌ {A = Result Tree Refusal} (Ok p) (Ok q) → pack_taken q ≡ children_taken q
same_pack p q h same = subst (λ r. and_then r pack_taken ≡ and_then r children_taken) same h

-- ---- a select's pack

of_names : (e p : Tree) (o : Option (List Bytes)) → fields_pack e o ≡ Ok p → pack_taken p ≡ children_taken p
of_names e p (Some names) h =
    let items = trees_of (map (λ f. get_item f e) names) in
    same_pack (pack names items NonNullable) p (pack_by_children names items NonNullable) h
of_names e p None h = let no : ⊥ = cc in absurd no

of_select : (e p : Tree) (b : Bool) (o : Option (List Bytes)) → unless b nullable_select (fields_pack e o) ≡ Ok p → pack_taken p ≡ children_taken p
of_select e p true o h = of_names e p o h
of_select e p false o h = let no : ⊥ = cc in absurd no

-- a select whose struct has this head becomes this pack, and then the pack with its values taken
pub select_taken : (t : Ty) (s : FieldSelection) (e p : Tree) (head : StructHead) → head_of t e ≡ Ok head → select_by_head s e head ≡ Ok p
    → and_then (and_then (head_of t e) (select_by_head s e)) pack_taken ≡ children_taken p
select_taken t s e p head h k =
    ap (λ r. and_then (and_then r (select_by_head s e)) pack_taken) h ∙ ap (λ r. and_then r pack_taken) k
    ∙ of_select e p (not (is_nullable head.nullability)) (names_where_known s head.names) k

-- the structs that go into a merge become this pack
pub merge_taken : (t : Ty) (es : Trees) (n : Nullability) (gs : List Giving) → givings_by_head t es ≡ Ok gs
    → and_then (givings_by_head t es) (λ hs. pack_taken (givings_pack n hs)) ≡ children_taken (givings_pack n gs)
merge_taken t es n gs h = ap (λ r. and_then r (λ hs. pack_taken (givings_pack n hs))) h ∙ pack_by_children (merged_names giving_names gs) (trees_of (map (given_field gs) (merged_names giving_names gs))) n

-- a walked merge, by its children
pub merge_by_children : (t : Ty) (e : Tree) (es : List Tree) (n : Nullability) → merge (trees_of es) n ≡ e
    → walked_node t e ≡ and_then (givings_by_head t (trees_of (children_of e))) (λ gs. pack_taken (givings_pack n gs))
merge_by_children t e es n is =
    ap (walked_node t) (sym is) ∙ ap (λ ds. and_then (givings_by_head t (trees_of ds)) (λ gs. pack_taken (givings_pack n gs))) (sym (listed_trees_of es))
    ∙ ap (λ d. and_then (givings_by_head t (trees_of (children_of d))) (λ gs. pack_taken (givings_pack n gs))) is

-- ---- the whole walk

-- what the walk of a strictly typed expression makes, where it refuses nothing, is what the passes make
pub walked_passed : {E : Type 0} (t : Ty) (e : Tree) (u : Ty) (answer : Result (Option Tree) E) → typed_of t e ≡ Ok u
    → IfOk answer (λ made. IfSome made (λ d. walked t e ≡ Ok d)) → IfOk answer (λ made. IfSome made (λ d. passed t e ≡ Ok d))
walked_passed t e u (Ok (Some d)) h k = sym (walk_makes_the_passes t e u h) ∙ k
walked_passed t e u (Ok None) h k = tt
walked_passed t e u (Err r) h k = tt
