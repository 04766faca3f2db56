-- Structs that all have the same names, of which none stands twice: their names, and where each stands in the last of them.
use Rattle.std.proofs.Common.{◌≡◌, refl, ap, sym, ◌∙◌, ℕ, zero, suc, ◌+◌, ◌<◌, ◌≤◌, Bool, true, false, ◌&&◌, not, cond, List, [], ◌∷◌, ◌++◌, map, length, take, drop, append-nil, Option, Some, None, option_map, position, arith}
use Rattle.std.specs.Option.{option_or}
use Rattle.std.specs.List.{All, filter, flat_map, list_all, position_from}
use Rattle.std.specs.Str.{bytes_eq}
use Rattle.std.proofs.Math.ListN.{get_or}
use Rattle.std.proofs.lemmas.Bool.{and_parts}
use Rattle.std.proofs.lemmas.Iterator.Adapters.{position_from-zero}
use Rattle.std.proofs.lemmas.List.{map_push, map_more, take_more}
use Rattle.std.proofs.lemmas.Slice.Eq.{bytes_eq-Decides}
use Rattle.vx_dtype.specs.Equal.{names_eq}
use Rattle.vx_dtype.specs.EqualLaws.{names_decides}
use Rattle.vx_dtype.specs.Types.{Bytes}
use Rattle.vx_dtype.specs.TypeRules.{has_name, distinct_names}
use Rattle.vx_dtype.specs.Structs.{first_names}
use Rattle.vx_dtype.proofs.DistinctLemmas.{not_found}
use Rattle.vx_semantics.specs.Merging.{merged_names}
use Rattle.vx_typing.specs.declared.field_places.FieldPlace.{FieldPlace}
use Rattle.vx_typing.specs.declared.field_places.MergedField.{MergedField}
use Rattle.vx_typing.specs.MergedFields.{place_of, first_place, last_place, name_of, are_alike, IsGivenBy}
use Rattle.vx_typing.proofs.FieldPlaces.{all_given}
use Rattle.vx_typing.proofs.FirstNames.{is_new, first_names-append, none_new, all_among}
use Rattle.vx_typing.proofs.NameLemmas.{first_names_own, has_name_itself, name_at}

module _ (names : List Bytes) where
  same_names : (own : List Bytes) (others : List (List Bytes)) → list_all (names_eq names) (own ∷ others) ≡ true → names ≡ own
  same_names own others h = (names_decides names own).0 (and_parts (names_eq names own) (list_all (names_eq names) others) h).0

  others_same : (own : List Bytes) (others : List (List Bytes)) → list_all (names_eq names) (own ∷ others) ≡ true → list_all (names_eq names) others ≡ true
  others_same own others h = (and_parts (names_eq names own) (list_all (names_eq names) others) h).1

  -- they give these names together
  given_together : distinct_names names ≡ true → (others : List (List Bytes)) → list_all (names_eq names) others ≡ true
      → first_names (names ++ flat_map (λ own. own) others) ≡ names
  given_together once [] h = ap first_names (append-nil names) ∙ first_names_own names once
  given_together once (own ∷ others) h =
      let rest : List Bytes = flat_map (λ (o : List Bytes). o) others in
      let behind : first_names (own ++ rest) ≡ names =
      ap (λ (o : List Bytes). first_names (o ++ rest)) (sym (same_names own others h)) ∙ given_together once others (others_same own others h) in
      first_names-append names (own ++ rest)
      ∙ ap (λ zs. zs ++ filter (is_new names) (first_names (own ++ rest))) (first_names_own names once)
      ∙ ap (λ zs. names ++ filter (is_new names) zs) behind
      ∙ ap (λ zs. names ++ zs) (none_new names names (all_among names))
      ∙ append-nil names

  -- each stands in the last of them where it stands first among these names
  last_of_same : (others : List (List Bytes)) (i : ℕ) (f : Bytes) → list_all (names_eq names) others ≡ true
      → last_place i f (names ∷ others) ≡ first_place (i + length others) f names
  last_of_same [] i f h = let same : i ≡ i + 0 = omega arith in ap (λ k. first_place k f names) same
  last_of_same (own ∷ others) i f h =
      let behind : last_place (i + 1) f (own ∷ others) ≡ first_place (i + 1 + length others) f names =
      ap (λ (o : List Bytes). last_place (i + 1) f (o ∷ others)) (sym (same_names own others h)) ∙ last_of_same others (i + 1) f (others_same own others h) in
      let next : i + 1 + length others ≡ i + length (own ∷ others) = omega arith in
      ap (λ o. option_or o (first_place i f names)) (behind ∙ ap (λ k. first_place k f names) next)
      ∙ by_place (i + length (own ∷ others)) i (position (bytes_eq f) names)
    where
      by_place : (k n : ℕ) (o : Option ℕ) → option_or (option_map (place_of k) o) (option_map (place_of n) o) ≡ option_map (place_of k) o
      by_place k n None = refl
      by_place k n (Some j) = refl

-- ---- the place of a name that stands once

other_name : (f g : Bytes) (gs : List Bytes) (b : Bool) → bytes_eq f g ≡ b → has_name f gs ≡ true → has_name g gs ≡ false → bytes_eq f g ≡ false
other_name f g gs false e there none = e
other_name f g gs true e there none =
    let again : has_name g gs ≡ true = ap (λ k. has_name k gs) (sym ((bytes_eq-Decides f g).0 e)) ∙ there in
    absurd cc

at_index : (names : List Bytes) (k i : ℕ) (d : Bytes) → distinct_names names ≡ true → i < length names → position_from (bytes_eq (get_or names i d)) k names ≡ Some (k + i)
at_index [] k i d once h = absurd (omega (arith, h))
at_index (g ∷ gs) k zero d once h =
    let same : k ≡ k + zero = omega arith in
    ap (λ b. cond b (Some k) (position_from (bytes_eq g) (k + 1) gs)) (has_name_itself g) ∙ ap Some same
at_index (g ∷ gs) k (suc i) d once h =
    let parts = and_parts (not (has_name g gs)) (distinct_names gs) once in
    let f = get_or gs i d in
    let within : i < length gs = omega (arith, h) in
    let next : k + 1 + i ≡ k + suc i = omega arith in
    let other : bytes_eq f g ≡ false = other_name f g gs (bytes_eq f g) refl (name_at gs i d within) (not_found (has_name g gs) parts.0) in
    ap (λ b. cond b (Some k) (position_from (bytes_eq f) (k + 1) gs)) other ∙ at_index gs (k + 1) i d parts.1 within ∙ ap Some next

-- it stands where it is
pub stands_there : (names : List Bytes) (i : ℕ) (f : Bytes) → distinct_names names ≡ true → i < length names → f ≡ get_or names i f → position (bytes_eq f) names ≡ Some i
stands_there names i f once within is =
    let first : 0 + i ≡ i = omega arith in
    position_from-zero (bytes_eq f) names ∙ ap (λ g. position_from (bytes_eq g) 0 names) is ∙ at_index names 0 i f once within ∙ ap Some first

-- ---- fields that are collected from the names

-- the field at an index of the struct with a number
abbrev pub field_there : ℕ → ℕ → Bytes → MergedField
field_there i j f = record { name = f; place = place_of i j }

-- fields have their names, and stand where the struct with a number has each first
abbrev pub AreOwn : ℕ → List Bytes → List Bytes → List MergedField → Type 0
AreOwn giver names taken ms = (map name_of ms ≡ taken) × (map (λ (m : MergedField). Some m.place) ms ≡ map (λ f. first_place giver f names) taken)

-- one more is collected
pub one_own_more : (giver : ℕ) (names : List Bytes) (i : ℕ) (f : Bytes) (ms made : List MergedField) → distinct_names names ≡ true → i < length names → f ≡ get_or names i f
    → made ≡ ms ++ field_there giver i f ∷ [] → AreOwn giver names (take i names) ms → AreOwn giver names (take (i + 1) names) made
one_own_more giver names i f ms made once within is more so_far =
    let first : Bytes → Option FieldPlace = λ g. first_place giver g names in
    let there : Some (place_of giver i) ≡ first (get_or names i f) =
    sym (ap (option_map (place_of giver)) (stands_there names i f once within is)) ∙ ap first is in (
      ap (map name_of) more ∙ map_push name_of ms (field_there giver i f) ∙ ap (λ ns. ns ++ f ∷ []) so_far.0
          ∙ ap (λ g. take i names ++ g ∷ []) is ∙ sym (take_more names i f within),
      ap (map (λ (m : MergedField). Some m.place)) more ∙ map_push (λ (m : MergedField). Some m.place) ms (field_there giver i f)
          ∙ ap (λ ps. ps ++ Some (place_of giver i) ∷ []) so_far.1
          ∙ ap (λ p. map first (take i names) ++ p ∷ []) there ∙ sym (map_more first names i f within),
    )

-- ---- what the structs give together

-- structs of which there is one are the first and the others
pub first_and_others : (structs : List (List Bytes)) (names : List Bytes) → 1 ≤ length structs → names ≡ get_or structs 0 names → structs ≡ names ∷ drop 1 structs
first_and_others [] names some is = absurd (omega (arith, some))
first_and_others (own ∷ structs) names some is = ap (λ (ns : List Bytes). ns ∷ structs) (sym is)

-- where no name of the first stands twice, they are alike where all have its names
pub alike_by_first : (structs : List (List Bytes)) (names : List Bytes) (others : List (List Bytes)) → structs ≡ names ∷ others → distinct_names names ≡ true
    → list_all (names_eq names) others ≡ are_alike structs
alike_by_first structs names others is once = sym (ap are_alike is ∙ ap (λ b. b && list_all (names_eq names) others) once)

module _ (structs : List (List Bytes)) (names : List Bytes) (others : List (List Bytes)) (is : structs ≡ names ∷ others) (alike : are_alike structs ≡ true) where
  parts : (distinct_names names ≡ true) × (list_all (names_eq names) others ≡ true)
  parts = and_parts (distinct_names names) (list_all (names_eq names) others) (sym (ap are_alike is) ∙ alike)

  pub alike_names : names ≡ merged_names (λ own. own) structs
  alike_names = sym (ap (merged_names (λ (own : List Bytes). own)) is ∙ given_together names parts.0 others parts.1)

  pub alike_given : (ms : List MergedField) (giver : ℕ) (shown : List Bytes) → map name_of ms ≡ shown → map (λ m. Some m.place) ms ≡ map (λ f. first_place giver f shown) shown
      → giver ≡ length others → shown ≡ names → All (IsGivenBy structs) ms
  alike_given ms giver shown named placed counted same =
      let noted : Bytes → Option FieldPlace = λ f. first_place (length others) f names in
      let none : 0 + length others ≡ length others = omega arith in
      let last : (f : Bytes) → noted f ≡ last_place 0 f structs =
      λ f. ap (λ k. first_place k f names) (sym none) ∙ sym (last_of_same names others 0 f parts.1) ∙ ap (last_place 0 f) (sym is) in
      all_given structs noted names ms last (named ∙ same) (placed ∙ (λ i. map (λ (f : Bytes). first_place (counted i) f (same i)) (same i)))
