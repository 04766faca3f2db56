-- Structs of which none has a name twice: their names, one struct after the other, and where each name stands last, from the last struct on.
use Rattle.std.proofs.Common.{◌≡◌, refl, ap, sym, ◌∙◌, ℕ, ◌+◌, ◌<◌, ◌≤◌, Bool, true, false, ◌||◌, not, List, [], ◌∷◌, ◌++◌, length, take, Option, Some, None, option_map, position, arith}
use Rattle.std.specs.Option.{option_or}
use Rattle.std.specs.List.{filter, flat_map, list_all, list_any}
use Rattle.std.specs.Str.{bytes_eq}
use Rattle.std.proofs.Math.ListN.{get_or}
use Rattle.std.proofs.lemmas.List.{flat_map_more, length-take-le, take_all, take_more}
use Rattle.std.proofs.lemmas.List.Elements.{filter_agree}
use Rattle.std.proofs.lemmas.List.Folds.{list_all_at, list_any-append}
use Rattle.vx_dtype.specs.Types.{Bytes}
use Rattle.vx_dtype.specs.TypeRules.{has_name, distinct_names}
use Rattle.vx_dtype.specs.Structs.{first_names}
use Rattle.vx_semantics.specs.Merging.{merged_names}
use Rattle.vx_typing.specs.MergedFields.{place_of, first_place, last_place}
use Rattle.vx_typing.proofs.FirstNames.{is_new, first_names-append}
use Rattle.vx_typing.proofs.NameLemmas.{first_names_own}

-- ---- names, one struct after the other

-- a name is among those of structs where one of them has it
given_by : (f : Bytes) (structs : List (List Bytes)) → has_name f (flat_map (λ own. own) structs) ≡ list_any (has_name f) structs
given_by f [] = refl
given_by f (names ∷ structs) =
    list_any-append (bytes_eq f) names (flat_map (λ (own : List Bytes). own) structs) ∙ ap (λ b. has_name f names || b) (given_by f structs)

-- a test that all pass is passed at each place
all_at : {X : Type 0} (p : X → Bool) (xs : List X) (i : ℕ) (x : X) → list_all p xs ≡ true → i < length xs → x ≡ get_or xs i x → p x ≡ true
all_at p xs i x all within is = by_test (p x) refl
  where
    by_test : (b : Bool) → p x ≡ b → p x ≡ true
    by_test true e = e
    by_test false e =
        let some : list_all p xs ≡ false = list_all_at p xs i x within (sym (ap p is) ∙ e) in
        absurd cc

-- the names of one struct more are the new ones of its names
pub one_struct_more : (structs : List (List Bytes)) (i : ℕ) (own all new made : List Bytes) → list_all distinct_names structs ≡ true → i < length structs → own ≡ get_or structs i own
    → all ≡ merged_names (λ names. names) (take i structs) → new ≡ filter (λ f. not (list_any (has_name f) (take i structs))) own → made ≡ all ++ new
    → made ≡ merged_names (λ names. names) (take (i + 1) structs)
one_struct_more structs i own all new made once within is so_far is_new_names e =
    let before = take i structs in
    let given : List Bytes = flat_map (λ (names : List Bytes). names) before in
    let own_once : distinct_names own ≡ true = all_at distinct_names structs i own once within is in
    let same_test : filter (λ f. not (list_any (has_name f) before)) own ≡ filter (is_new given) own =
    filter_agree (λ f. not (list_any (has_name f) before)) (is_new given) (λ f. ap not (sym (given_by f before))) own in
    let behind : first_names (given ++ own) ≡ first_names given ++ filter (is_new given) own =
    first_names-append given own ∙ ap (λ names. first_names given ++ filter (is_new given) names) (first_names_own own own_once) in
    let more : take (i + 1) structs ≡ before ++ own ∷ [] = take_more structs i own within ∙ ap (λ (names : List Bytes). before ++ names ∷ []) (sym is) in
    e ∙ ap (λ names. names ++ new) so_far ∙ ap (λ names. first_names given ++ names) (is_new_names ∙ same_test)
    ∙ sym behind ∙ ap first_names (flat_map_more (λ (names : List Bytes). names) [] before own)
    ∙ ap (merged_names (λ (names : List Bytes). names)) (sym more)

-- ---- places, from the last struct on

or_or : {X : Type 0} (a b c : Option X) → option_or (option_or a b) c ≡ option_or a (option_or b c)
or_or None b c = refl
or_or (Some x) b c = refl

or_none : {X : Type 0} (a : Option X) → option_or a None ≡ a
or_none None = refl
or_none (Some x) = refl

-- of the last of several structs the place comes first
last_place-append : (i : ℕ) (f : Bytes) (structs : List (List Bytes)) (own : List Bytes) → last_place i f (structs ++ own ∷ []) ≡ option_or (first_place (i + length structs) f own) (last_place i f structs)
last_place-append i f [] own =
    let same : i ≡ i + 0 = omega arith in
    ap (λ k. first_place k f own) same ∙ sym (or_none (first_place (i + 0) f own))
last_place-append i f (names ∷ structs) own =
    let next : i + 1 + length structs ≡ i + length (names ∷ structs) = omega arith in
    ap (λ o. option_or o (first_place i f names)) (last_place-append (i + 1) f structs own ∙ ap (λ k. option_or (first_place k f own) (last_place (i + 1) f structs)) next)
    ∙ or_or (first_place (i + length (names ∷ structs)) f own) (last_place (i + 1) f structs) (first_place i f names)

module _ (structs : List (List Bytes)) (left i : ℕ) (f : Bytes) (own : List Bytes) (next : i + 1 ≡ left) (within : i < length structs) (is : own ≡ get_or structs i own)
    (so_far : last_place 0 f structs ≡ last_place 0 f (take left structs)) where
  by_last : last_place 0 f structs ≡ option_or (first_place i f own) (last_place 0 f (take i structs))
  by_last =
      let more : take left structs ≡ take i structs ++ own ∷ [] =
      ap (λ k. take k structs) (sym next) ∙ take_more structs i own within ∙ ap (λ (names : List Bytes). take i structs ++ names ∷ []) (sym is) in
      let number : 0 + length (take i structs) ≡ i = omega (arith, length-take-le i structs (omega (arith, within))) in
      so_far ∙ ap (last_place 0 f) more ∙ last_place-append 0 f (take i structs) own ∙ ap (λ k. option_or (first_place k f own) (last_place 0 f (take i structs))) number

  -- where the struct at an index has the name, it stands last there
  pub stands_last : (j : ℕ) → position (bytes_eq f) own ≡ Some j → last_place 0 f structs ≡ Some (place_of i j)
  stands_last j e = by_last ∙ ap (λ o. option_or (option_map (place_of i) o) (last_place 0 f (take i structs))) e

  -- where it hasn't, the name stands in one before
  pub stands_before : position (bytes_eq f) own ≡ None → last_place 0 f structs ≡ last_place 0 f (take i structs)
  stands_before e = by_last ∙ ap (λ o. option_or (option_map (place_of i) o) (last_place 0 f (take i structs))) e

-- all structs are left at first, and none at the end
pub all_left : (structs : List (List Bytes)) (f : Bytes) (left : ℕ) → length structs ≤ left → last_place 0 f structs ≡ last_place 0 f (take left structs)
all_left structs f left past = ap (last_place 0 f) (sym (take_all left structs past))

pub none_left : (structs : List (List Bytes)) (f : Bytes) (left : ℕ) → left ≡ 0 → last_place 0 f structs ≡ last_place 0 f (take left structs) → last_place 0 f structs ≡ None
none_left structs f left first so_far = so_far ∙ ap (λ k. last_place 0 f (take k structs)) first
