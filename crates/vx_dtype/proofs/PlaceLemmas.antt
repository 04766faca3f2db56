-- First places of names: noted from the last name to the first, and which names have one.
use Rattle.std.proofs.Common.{◌≡◌, ℕ, ◌+◌, ◌<◌, ◌≤◌, Bool, true, false, ◌||◌, ◌&&◌, not, cond, List, [], ◌∷◌, length, drop, Option, Some, None, is_some, position, refl, ap, sym, ◌∙◌}
use Rattle.std.proofs.Math.ListN.{get_or}
use Rattle.std.proofs.lemmas.Iterator.Adapters.{position_from-zero}
use Rattle.std.proofs.lemmas.List.{drop_all}
use Rattle.std.proofs.lemmas.Map.Text.{is_eq-slice_cmp}
use Rattle.std.specs.Cmp.Lexicographic.{slice_cmp}
use Rattle.std.specs.List.{position_from}
use Rattle.std.specs.Ordering.{nat_cmp, is_eq}
use Rattle.std.specs.Str.{bytes_eq}
use Rattle.vx_dtype.proofs.DistinctLemmas.{names-from}
use Rattle.vx_dtype.specs.EqualLaws.{bytes_eq_equiv}
use Rattle.vx_dtype.specs.TypeRules.{has_name, distinct_names}
use Rattle.vx_dtype.specs.Types.{Bytes}

-- nothing is noted behind the last name
pub none_noted : (names : List Bytes) (left : ℕ) (f : Bytes) (noted : Option ℕ) → length names ≤ left → noted ≡ None → noted ≡ position_from (bytes_eq f) left (drop left names)
none_noted names left f noted past e = e ∙ ap (position_from (bytes_eq f) left) (sym (drop_all left names past))

-- the place of the name at an index is noted over those of the names behind it
pub one_more_noted : (names : List Bytes) (i left : ℕ) (g f : Bytes) (was now : Option ℕ) → i + 1 ≡ left → i < length names → g ≡ get_or names i g
    → was ≡ position_from (bytes_eq f) left (drop left names)
    → now ≡ cond (is_eq (slice_cmp nat_cmp g f)) (Some i) was
    → now ≡ position_from (bytes_eq f) i (drop i names)
one_more_noted names i left g f was now next within is so_far e =
    let rest = position_from (bytes_eq f) left (drop left names) in
    let here : position_from (bytes_eq f) i (drop i names) ≡ cond (bytes_eq f g) (Some i) rest =
    ap (position_from (bytes_eq f) i) (names-from names i g within is) ∙ ap (λ k. cond (bytes_eq f g) (Some i) (position_from (bytes_eq f) k (drop k names))) next in
    e ∙ ap (λ b. cond b (Some i) was) (is_eq-slice_cmp g f ∙ bytes_eq_equiv.symm g f) ∙ ap (cond (bytes_eq f g) (Some i)) so_far ∙ sym here

-- from the first name on the first places are
pub all_noted : (names : List Bytes) (left : ℕ) (f : Bytes) (noted : Option ℕ) → left ≡ 0 → noted ≡ position_from (bytes_eq f) left (drop left names) → noted ≡ position (bytes_eq f) names
all_noted names left f noted first h =
    h ∙ ap (λ k. position_from (bytes_eq f) k (drop k names)) first ∙ sym (position_from-zero (bytes_eq f) names)

position_from-known : (f : Bytes) (i : ℕ) (names : List Bytes) → is_some (position_from (bytes_eq f) i names) ≡ has_name f names
position_from-known f i [] = refl
position_from-known f i (g ∷ gs) =
    elim (bytes_eq f g) as (λ b. is_some (cond b (Some i) (position_from (bytes_eq f) (i + 1) gs)) ≡ (b || has_name f gs)) [ true ↦ refl | false ↦ position_from-known f (i + 1) gs ]

-- a name has a place exactly where it is one of the names
pub position_known : (f : Bytes) (names : List Bytes) → is_some (position (bytes_eq f) names) ≡ has_name f names
position_known f names = ap is_some (position_from-zero (bytes_eq f) names) ∙ position_from-known f 0 names

-- behind the last name none stands twice
pub none_distinct : (names : List Bytes) (left : ℕ) → length names ≤ left → true ≡ distinct_names (drop left names)
none_distinct names left past = ap distinct_names (sym (drop_all left names past))

not_known : (empty known distinct : Bool) → not empty ≡ known → (distinct && empty) ≡ (not known && distinct)
not_known true known true e = ap (λ b. not b && true) e
not_known true known false e = ap (λ b. not b && false) e
not_known false known true e = ap (λ b. not b && true) e
not_known false known false e = ap (λ b. not b && false) e

-- with the name at an index, names are distinct where those behind it are and the name has no place among them
pub one_more_distinct : (names : List Bytes) (i left : ℕ) (g : Bytes) (was empty : Bool) (noted : Option ℕ) → i + 1 ≡ left → i < length names → g ≡ get_or names i g
    → was ≡ distinct_names (drop left names)
    → noted ≡ position_from (bytes_eq g) left (drop left names)
    → is_some noted ≡ not empty
    → (was && empty) ≡ distinct_names (drop i names)
one_more_distinct names i left g was empty noted next within is so_far e none =
    let here : distinct_names (drop i names) ≡ (not (has_name g (drop left names)) && distinct_names (drop left names)) =
    ap distinct_names (names-from names i g within is) ∙ ap (λ k. not (has_name g (drop k names)) && distinct_names (drop k names)) next in
    not_known empty (has_name g (drop left names)) was (sym none ∙ ap is_some e ∙ position_from-known g left (drop left names))
    ∙ ap (λ b. not (has_name g (drop left names)) && b) so_far ∙ sym here
