-- Names that stand twice in one struct of a type: a test of fields tests the type of each.
use Rattle.std.proofs.Common.{◌≡◌, Bool, true, false, ◌&&◌, ◌||◌, not, cond, ℕ, zero, suc, ◌+◌, ◌<◌, List, [], ◌∷◌, length, drop, map, refl, ap, sym, ◌∙◌}
use Rattle.std.proofs.Math.ListN.{get_or}
use Rattle.std.proofs.lemmas.List.{drop_more}
use Rattle.std.proofs.lemmas.Map.Text.{is_eq-slice_cmp}
use Rattle.std.specs.List.{list_all}
use Rattle.std.specs.Str.{bytes_eq}
use Rattle.std.specs.Ordering.{nat_cmp, is_eq}
use Rattle.std.specs.Cmp.Lexicographic.{slice_cmp}
use Rattle.vx_dtype.specs.EqualLaws.{bytes_eq_equiv}
use Rattle.vx_dtype.proofs.ZippedLemmas.{field_names_zipped, field_types_zipped}
use Rattle.vx_dtype.specs.Types.{Bytes, Ty, Fields, struct_ty, no_fields, field, NonNullable}
use Rattle.vx_dtype.specs.Zipped.{zipped}
use Rattle.vx_dtype.specs.TypeRules.{has_name, distinct_names, no_name_twice, no_name_twice_below}
use Rattle.vx_dtype.specs.StructTypes.{field_types}

pub no_name_twice_below_all : (fs : Fields) → no_name_twice_below fs ≡ list_all no_name_twice (field_types fs)
unfolding no_name_twice
no_name_twice_below_all no_fields = refl
no_name_twice_below_all (field f t fs) = ap (λ b. no_name_twice t && b) (no_name_twice_below_all fs)

module _ {A : Type 0} (see : A → Ty) where
  below_zipped : (fs : List Bytes) (xs : List A) → length fs ≡ length xs → no_name_twice_below (zipped fs (map see xs)) ≡ list_all no_name_twice (map see xs)
  below_zipped fs xs e = no_name_twice_below_all (zipped fs (map see xs)) ∙ ap (list_all no_name_twice) (field_types_zipped see fs xs e)

  -- a struct of fields made of names and types has no name twice where the names are distinct and none of the types has one twice
  pub no_name_twice_zipped : (fs : List Bytes) (xs : List A) → length fs ≡ length xs
      → no_name_twice (struct_ty (zipped fs (map see xs)) NonNullable) ≡ (distinct_names fs && list_all no_name_twice (map see xs))
  unfolding no_name_twice
  no_name_twice_zipped fs xs e =
      ap (λ gs. distinct_names gs && no_name_twice_below (zipped fs (map see xs))) (field_names_zipped see fs xs e)
      ∙ ap (λ b. distinct_names fs && b) (below_zipped fs xs e)

and_false : (a : Bool) → (a && false) ≡ false
and_false true = refl
and_false false = refl

-- names of which one stands twice among those from a place on have one that stands twice
pub distinct_names-from : (fs : List Bytes) (i : ℕ) → distinct_names (drop i fs) ≡ false → distinct_names fs ≡ false
distinct_names-from fs zero h = h
distinct_names-from [] (suc i) h = h
distinct_names-from (f ∷ fs) (suc i) h = ap (λ b. not (has_name f fs) && b) (distinct_names-from fs i h) ∙ and_false (not (has_name f fs))

-- at a place within, the names from there on are the one there and those behind it
pub names-from : (fs : List Bytes) (i : ℕ) (f : Bytes) → i < length fs → f ≡ get_or fs i f → drop i fs ≡ f ∷ drop (i + 1) fs
names-from fs i f h e = drop_more fs i f h ∙ ap (λ g. g ∷ drop (i + 1) fs) (sym e)

second_false : (a b : Bool) → a ≡ true → (not a && b) ≡ false
second_false true b h = refl
second_false false b h = absurd cc

both : (a b : Bool) → a ≡ false → b ≡ true → (not a && b) ≡ true
both a b p q = cc

either : (a b : Bool) → cond a true b ≡ (a || b)
either true b = refl
either false b = refl

pub found : (a : Bool) → not a ≡ false → a ≡ true
found true h = refl
found false h = absurd cc

pub not_found : (a : Bool) → not a ≡ true → a ≡ false
not_found true h = absurd cc
not_found false h = refl

module _ (names : List Bytes) (i left : ℕ) (f : Bytes) (next : i + 1 ≡ left) (within : i < length names) (is : f ≡ get_or names i f) where
  from_here : drop i names ≡ f ∷ drop left names
  from_here = names-from names i f within is ∙ ap (λ k. f ∷ drop k names) next

  -- a name that stands again behind its place stands twice
  pub stands_twice : has_name f (drop left names) ≡ true → false ≡ distinct_names names
  stands_twice h =
      let here : distinct_names (drop i names) ≡ (not (has_name f (drop left names)) && distinct_names (drop left names)) = ap distinct_names from_here in
      sym (distinct_names-from names i (here ∙ second_false (has_name f (drop left names)) (distinct_names (drop left names)) h))

  -- one that does not is distinct from those behind it
  pub stands_once : has_name f (drop left names) ≡ false → distinct_names (drop left names) ≡ true → distinct_names (drop i names) ≡ true
  stands_once h d =
      let here : distinct_names (drop i names) ≡ (not (has_name f (drop left names)) && distinct_names (drop left names)) = ap distinct_names from_here in
      here ∙ both (has_name f (drop left names)) (distinct_names (drop left names)) h d

  -- a set of the names behind it, with it, has the names from its place on
  pub one_more : (q : Bytes) (was now : Bool) → was ≡ has_name q (drop left names) → now ≡ cond (is_eq (slice_cmp nat_cmp f q)) true was → now ≡ has_name q (drop i names)
  one_more q was now h e =
      let here : has_name q (drop i names) ≡ (bytes_eq q f || has_name q (drop left names)) = ap (has_name q) from_here in
      let same : is_eq (slice_cmp nat_cmp f q) ≡ bytes_eq q f = is_eq-slice_cmp f q ∙ bytes_eq_equiv.symm f q in
      e ∙ ap (λ b. cond b true was) same ∙ either (bytes_eq q f) was ∙ ap (λ b. bytes_eq q f || b) h ∙ sym here
