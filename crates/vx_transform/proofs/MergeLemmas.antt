-- The structs that go into a merge, child by child, and the pack of what they give together.
use Rattle.std.proofs.Common.{◌≡◌, List, [], ◌∷◌, length, map, Ok, Result, refl, ap, sym, ◌∙◌}
use Rattle.std.proofs.lemmas.List.{length-map}
use Rattle.vx_dtype.specs.Types.{Ty}
use Rattle.vx_expr.specs.Trees.{Tree, pack, merge, trees_of, children_of}
use Rattle.vx_expr.proofs.TreeLemmas.{listed_trees_of}
use Rattle.vx_semantics.specs.Merging.{merged_names}
use Rattle.vx_semantics.specs.Typing.{Refusal, and_then}
use Rattle.vx_semantics.specs.LooseTyping.{loosely_typed}
use Rattle.vx_dtype.specs.declared.Nullability.{Nullability}
use Rattle.vx_passes.specs.Merging.{Giving, giving_names, giving_of, givings, given_field, givings_pack, merge_removed}
use Rattle.vx_typing.specs.declared.field_places.MergedField.{MergedField}
use Rattle.vx_typing.specs.MergedFields.{name_of}
use Rattle.vx_transform.specs.Rebuilds.{each}

-- a child of a merge as a struct that goes into it
abbrev pub typed_giving : Ty → Tree → Result Giving Refusal
typed_giving t e = and_then (loosely_typed t e) (giving_of e)

pub givings_each : (t : Ty) (es : List Tree) → givings t (trees_of es) ≡ each (typed_giving t) es
givings_each t [] = refl
givings_each t (e ∷ es) = ap (λ r. and_then (typed_giving t e) (λ g. and_then r (λ gs. Ok (g ∷ gs)))) (givings_each t es)

-- a merge as a pack, by its children
pub merge_by_children : (t : Ty) (e : Tree) (es : List Tree) (n : Nullability) → merge (trees_of es) n ≡ e
    → merge_removed t e ≡ and_then (givings t (trees_of (children_of e))) (λ gs. Ok (givings_pack n gs))
merge_by_children t e es n is =
    ap (merge_removed t) (sym is) ∙ ap (λ ds. and_then (givings t (trees_of ds)) (λ gs. Ok (givings_pack n gs))) (sym (listed_trees_of es))
    ∙ ap (λ d. and_then (givings t (trees_of (children_of d))) (λ gs. Ok (givings_pack n gs))) is

-- ---- the pack of merged fields

by_names : (gs : List Giving) (ms : List MergedField) → map (λ m. given_field gs m.name) ms ≡ map (given_field gs) (map name_of ms)
by_names gs [] = refl
by_names gs (m ∷ ms) = ap (λ es. given_field gs m.name ∷ es) (by_names gs ms)

-- there are as many fields as names
pub as_many_fields : (gs : List Giving) (ms : List MergedField) → length (map name_of ms) ≡ length (map (λ m. given_field gs m.name) ms)
as_many_fields gs ms = length-map ms name_of ∙ sym (length-map ms (λ (m : MergedField). given_field gs m.name))

-- the names beside the fields of the names are the pack of all that is given
pub pack_by_fields : (n : Nullability) (gs : List Giving) (ms : List MergedField) → map name_of ms ≡ merged_names giving_names gs
    → pack (map name_of ms) (trees_of (map (λ m. given_field gs m.name) ms)) n ≡ givings_pack n gs
pack_by_fields n gs ms is =
    ap (λ es. pack (map name_of ms) (trees_of es) n) (by_names gs ms) ∙ ap (λ fs. pack fs (trees_of (map (given_field gs) fs)) n) is
