-- Places of fields: as they are noted struct by struct, which names have one, and the structs that places lead to.
use Rattle.std.proofs.Common.{◌≡◌, refl, ap, sym, subst, ◌∙◌, ℕ, zero, suc, ◌+◌, ◌<◌, ◌≤◌, Bool, true, false, ◌||◌, cond, List, [], ◌∷◌, map, length, drop, Option, Some, None, option_map, is_some, IsSome, All, position, arith}
use Rattle.std.specs.Option.{option_or}
use Rattle.std.specs.List.{flat_map, position_from, slice_get}
use Rattle.std.specs.Str.{bytes_eq}
use Rattle.std.specs.Ordering.{nat_cmp, is_eq}
use Rattle.std.specs.Cmp.Lexicographic.{slice_cmp}
use Rattle.std.proofs.Math.ListN.{get_or}
use Rattle.std.proofs.lemmas.Iterator.Adapters.{position_from-zero}
use Rattle.std.proofs.lemmas.List.{drop_more, drop_all, length-map}
use Rattle.std.proofs.lemmas.List.Folds.{list_any-append, flat_map-map}
use Rattle.std.proofs.lemmas.Map.Text.{is_eq-slice_cmp}
use Rattle.std.proofs.lemmas.Option.{none-some, same_Some, slice_get_within, slice_get-get_or, slice_get-map}
use Rattle.vx_dtype.specs.EqualLaws.{bytes_eq_equiv}
use Rattle.vx_dtype.specs.Types.{Bytes}
use Rattle.vx_dtype.specs.TypeRules.{has_name}
use Rattle.vx_dtype.specs.Structs.{first_names}
use Rattle.vx_dtype.proofs.DistinctLemmas.{names-from}
use Rattle.vx_semantics.specs.Merging.{merged_names, last_giver}
use Rattle.vx_typing.specs.declared.field_places.FieldPlace.{FieldPlace}
use Rattle.vx_typing.specs.declared.field_places.MergedField.{MergedField}
use Rattle.vx_typing.specs.MergedFields.{place_of, first_place, last_place, name_of, IsGivenBy}
use Rattle.vx_typing.proofs.NameLemmas.{first_names_known}

or_none : {X : Type 0} (a : Option X) → option_or a None ≡ a
or_none None = refl
or_none (Some x) = refl

or_or : {X : Type 0} (a b c : Option X) → option_or (option_or a b) c ≡ option_or a (option_or b c)
or_or None b c = refl
or_or (Some x) b c = refl

or_some : {X : Type 0} (a b : Option X) → is_some (option_or a b) ≡ (is_some a || is_some b)
or_some None b = refl
or_some (Some x) b = refl

map_some : {X Y : Type 0} (g : X → Y) (o : Option X) → is_some (option_map g o) ≡ is_some o
map_some g None = refl
map_some g (Some x) = refl

swapped : (a b : Bool) → (a || b) ≡ (b || a)
swapped true true = refl
swapped true false = refl
swapped false true = refl
swapped false false = refl

-- ---- places that are noted, struct by struct

-- nothing is noted at first
pub none_noted : (structs : List (List Bytes)) (f : Bytes) (noted : Option FieldPlace) → noted ≡ None → last_place 0 f structs ≡ option_or (last_place 0 f structs) noted
none_noted structs f noted e = sym (or_none (last_place 0 f structs)) ∙ ap (option_or (last_place 0 f structs)) (sym e)

-- the place of the name at an index is noted over those of the names behind it
pub one_name_more : (giver : ℕ) (names : List Bytes) (i left : ℕ) (g f : Bytes) (before was now : Option FieldPlace) → i + 1 ≡ left → i < length names → g ≡ get_or names i g
    → was ≡ option_or (option_map (place_of giver) (position_from (bytes_eq f) left (drop left names))) before
    → now ≡ cond (is_eq (slice_cmp nat_cmp g f)) (Some (place_of giver i)) was
    → now ≡ option_or (option_map (place_of giver) (position_from (bytes_eq f) i (drop i names))) before
one_name_more giver names i left g f before was now next within is so_far e =
    let rest = position_from (bytes_eq f) left (drop left names) in
    let here : position_from (bytes_eq f) i (drop i names) ≡ cond (bytes_eq f g) (Some i) rest =
    ap (position_from (bytes_eq f) i) (names-from names i g within is) ∙ ap (λ k. cond (bytes_eq f g) (Some i) (position_from (bytes_eq f) k (drop k names))) next in
    e ∙ ap (λ b. cond b (Some (place_of giver i)) was) (is_eq-slice_cmp g f ∙ bytes_eq_equiv.symm g f)
    ∙ ap (cond (bytes_eq f g) (Some (place_of giver i))) so_far
    ∙ by_test (bytes_eq f g) rest
    ∙ ap (λ o. option_or (option_map (place_of giver) o) before) (sym here)
  where
    by_test : (b : Bool) (o : Option ℕ) → cond b (Some (place_of giver i)) (option_or (option_map (place_of giver) o) before) ≡ option_or (option_map (place_of giver) (cond b (Some i) o)) before
    by_test true o = refl
    by_test false o = refl

-- from the last name on nothing is noted
pub no_name_noted : (giver : ℕ) (names : List Bytes) (left : ℕ) (f : Bytes) (before : Option FieldPlace) → length names ≤ left
    → before ≡ option_or (option_map (place_of giver) (position_from (bytes_eq f) left (drop left names))) before
no_name_noted giver names left f before past =
    ap (λ ns. option_or (option_map (place_of giver) (position_from (bytes_eq f) left ns)) before) (sym (drop_all left names past))

-- from the first name on the struct's first places are
pub all_names_noted : (giver : ℕ) (names : List Bytes) (left : ℕ) (f : Bytes) (before now : Option FieldPlace) → left ≡ 0
    → now ≡ option_or (option_map (place_of giver) (position_from (bytes_eq f) left (drop left names))) before
    → now ≡ option_or (first_place giver f names) before
all_names_noted giver names left f before now first h =
    h ∙ ap (λ k. option_or (option_map (place_of giver) (position_from (bytes_eq f) k (drop k names))) before) first
    ∙ ap (λ o. option_or (option_map (place_of giver) o) before) (sym (position_from-zero (bytes_eq f) names))

-- the places of a struct are noted over those of the structs before it
pub one_struct_more : (structs : List (List Bytes)) (i : ℕ) (names : List Bytes) (f : Bytes) (all was now : Option FieldPlace) → i < length structs → names ≡ get_or structs i names
    → all ≡ option_or (last_place i f (drop i structs)) was → now ≡ option_or (first_place i f names) was
    → all ≡ option_or (last_place (i + 1) f (drop (i + 1) structs)) now
one_struct_more structs i names f all was now within is so_far e =
    let here : drop i structs ≡ names ∷ drop (i + 1) structs = drop_more structs i names within ∙ ap (λ (own : List Bytes). own ∷ drop (i + 1) structs) (sym is) in
    so_far ∙ ap (λ left. option_or (last_place i f left) was) here
    ∙ or_or (last_place (i + 1) f (drop (i + 1) structs)) (first_place i f names) was
    ∙ ap (option_or (last_place (i + 1) f (drop (i + 1) structs))) (sym e)

pub all_noted : (structs : List (List Bytes)) (i : ℕ) (f : Bytes) (all noted : Option FieldPlace) → length structs ≤ i → all ≡ option_or (last_place i f (drop i structs)) noted → noted ≡ all
all_noted structs i f all noted past h = sym (h ∙ ap (λ left. option_or (last_place i f left) noted) (drop_all i structs past))

-- ---- names that have a place

position_from-known : (f : Bytes) (i : ℕ) (names : List Bytes) → is_some (position_from (bytes_eq f) i names) ≡ has_name f names
position_from-known f i [] = refl
position_from-known f i (g ∷ gs) =
    elim (bytes_eq f g) as (λ b. is_some (cond b (Some i) (position_from (bytes_eq f) (i + 1) gs)) ≡ (b || has_name f gs)) [ true ↦ refl | false ↦ position_from-known f (i + 1) gs ]

first_place-known : (i : ℕ) (f : Bytes) (names : List Bytes) → is_some (first_place i f names) ≡ has_name f names
first_place-known i f names =
    map_some (place_of i) (position (bytes_eq f) names) ∙ ap is_some (position_from-zero (bytes_eq f) names) ∙ position_from-known f 0 names

last_place-known : (f : Bytes) (i : ℕ) (structs : List (List Bytes)) → is_some (last_place i f structs) ≡ has_name f (flat_map (λ own. own) structs)
last_place-known f i [] = refl
last_place-known f i (names ∷ structs) =
    let behind = has_name f (flat_map (λ (own : List Bytes). own) structs) in
    or_some (last_place (i + 1) f structs) (first_place i f names)
    ∙ ap (λ b. b || is_some (first_place i f names)) (last_place-known f (i + 1) structs)
    ∙ ap (λ b. behind || b) (first_place-known i f names)
    ∙ swapped behind (has_name f names)
    ∙ sym (list_any-append (bytes_eq f) names (flat_map (λ (own : List Bytes). own) structs))

-- so each of the names that structs give together has one
pub all_placed : (structs : List (List Bytes)) (noted : Bytes → Option FieldPlace) (names : List Bytes) → ((f : Bytes) → noted f ≡ last_place 0 f structs)
    → names ≡ first_names (flat_map (λ own. own) structs) → All (λ f. IsSome (noted f)) names
all_placed structs noted names e is =
    let all = flat_map (λ (own : List Bytes). own) structs in
    subst (All (λ f. IsSome (noted f))) (sym is)
    (λ i d h. ap is_some (e (get_or (first_names all) i d)) ∙ last_place-known (get_or (first_names all) i d) 0 structs ∙ first_names_known all i d h)

-- and fields at these places are given by the structs
pub all_given : (structs : List (List Bytes)) (noted : Bytes → Option FieldPlace) (names : List Bytes) (ms : List MergedField) → ((f : Bytes) → noted f ≡ last_place 0 f structs)
    → map name_of ms ≡ names → map (λ m. Some m.place) ms ≡ map noted names → All (IsGivenBy structs) ms
all_given structs noted names [] e p q i d h = absurd (omega (arith, h))
all_given structs noted [] (m ∷ ms) e p q i d h = absurd cc
all_given structs noted (f ∷ fs) (m ∷ ms) e p q zero d h =
    let named : m.name ≡ f = cc in
    let found : Some m.place ≡ noted f = cc in
    sym (e m.name) ∙ ap noted named ∙ sym found
all_given structs noted (f ∷ fs) (m ∷ ms) e p q (suc i) d h =
    let named : map name_of ms ≡ fs = cc in
    let found : map (λ (x : MergedField). Some x.place) ms ≡ map noted fs = cc in
    all_given structs noted fs ms e named found i d (omega (arith, h))

-- ---- the structs that places lead to

-- the names that are given together are the same of structs and of their lists of names
pub names_together : {X : Type 0} (names : X → List Bytes) (xs : List X) → merged_names (λ own. own) (map names xs) ≡ merged_names names xs
names_together names xs = ap first_names (flat_map-map (λ (own : List Bytes). own) names xs)

module _ {X : Type 0} (names : X → List Bytes) (f : Bytes) where
  -- a name has a place where one of the structs gives it
  last_giver-known : (xs : List X) (i : ℕ) → is_some (last_place i f (map names xs)) ≡ is_some (last_giver names f xs)
  last_giver-known [] i = refl
  last_giver-known (x ∷ xs) i =
      or_some (last_place (i + 1) f (map names xs)) (first_place i f (names x))
      ∙ ap (λ b. b || is_some (first_place i f (names x))) (last_giver-known xs (i + 1))
      ∙ ap (λ b. is_some (last_giver names f xs) || b) (first_place-known i f (names x) ∙ itself (has_name f (names x)))
      ∙ sym (or_some (last_giver names f xs) (cond (has_name f (names x)) (Some x) None))
    where
      itself : (b : Bool) → b ≡ is_some (cond b (Some x) None)
      itself true = refl
      itself false = refl

  -- the struct that a place leads to, where structs are numbered from `i` on: the last that gives the name, which stands there first
  record LedTo (xs : List X) (i : ℕ) (p : FieldPlace) : Type 0 where
    pub number : ℕ
    pub counted : i + number ≡ p.giver
    pub giver : X
    pub there : slice_get xs number ≡ Some giver
    pub last : last_giver names f xs ≡ Some giver
    pub first : position (bytes_eq f) (names giver) ≡ Some p.index

  -- a struct that has the name, where none behind it has
  last_here : (x : X) (xs : List X) → is_some (last_giver names f xs) ≡ false → has_name f (names x) ≡ true → last_giver names f (x ∷ xs) ≡ Some x
  last_here x xs none given = by_rest (last_giver names f xs) none ∙ ap (λ b. cond b (Some x) None) given
    where
      by_rest : (o : Option X) → is_some o ≡ false → option_or o (cond (has_name f (names x)) (Some x) None) ≡ cond (has_name f (names x)) (Some x) None
      by_rest None e = refl
      by_rest (Some y) e = absurd cc

  led_here : (x : X) (xs : List X) (i : ℕ) (p : FieldPlace) → is_some (last_giver names f xs) ≡ false → first_place i f (names x) ≡ Some p → LedTo (x ∷ xs) i p
  led_here x xs i p none h = by_place (position (bytes_eq f) (names x)) refl h
    where
      by_place : (o : Option ℕ) → position (bytes_eq f) (names x) ≡ o → option_map (place_of i) o ≡ Some p → LedTo (x ∷ xs) i p
      by_place None e k = absurd (none-some p k)
      by_place (Some j) e k =
          let same : place_of i j ≡ p = same_Some (place_of i j) p k in
          let number : i ≡ p.giver = ap (λ (r : FieldPlace). r.giver) same in
          let given : has_name f (names x) ≡ true = sym (first_place-known i f (names x)) ∙ ap is_some h in
          record {
            number = 0;
            counted = omega (arith, number);
            giver = x;
            there = refl;
            last = last_here x xs none given;
            first = e ∙ ap (λ (r : FieldPlace). Some r.index) same;
          }

  led_to : (xs : List X) (i : ℕ) (p : FieldPlace) → last_place i f (map names xs) ≡ Some p → LedTo xs i p
  led_to [] i p h = absurd (none-some p h)
  led_to (x ∷ xs) i p h = by_rest (last_place (i + 1) f (map names xs)) refl h (led_to xs (i + 1) p)
    where
      by_rest : (o : Option FieldPlace) → last_place (i + 1) f (map names xs) ≡ o → option_or o (first_place i f (names x)) ≡ Some p
          → (last_place (i + 1) f (map names xs) ≡ Some p → LedTo xs (i + 1) p) → LedTo (x ∷ xs) i p
      by_rest None e k rest = led_here x xs i p (sym (last_giver-known xs (i + 1)) ∙ ap is_some e) k
      by_rest (Some q) e k rest =
          let behind = rest (e ∙ k) in
          let counted : i + 1 + behind.number ≡ p.giver = behind.counted in
          record {
            number = suc behind.number;
            counted = omega (arith, counted);
            giver = behind.giver;
            there = behind.there;
            last = ap (λ o. option_or o (cond (has_name f (names x)) (Some x) None)) behind.last;
            first = behind.first;
          }

-- of a merged field, the struct at its place: the last that gives its name, which stands there first
pub record IsGiver {X : Type 0} (names : X → List Bytes) (xs : List X) (m : MergedField) (giver : X) : Type 0 where
  pub last : last_giver names m.name xs ≡ Some giver
  pub first : position (bytes_eq m.name) (names giver) ≡ Some m.place.index

module _ {X : Type 0} (names : X → List Bytes) (xs : List X) (m : MergedField) (given : IsGivenBy (map names xs) m) where
  led : LedTo names m.name xs 0 m.place
  led = led_to names m.name xs 0 m.place given

  there : slice_get xs m.place.giver ≡ Some led.giver
  there = let counted : led.number ≡ m.place.giver = omega (arith, led.counted) in ap (slice_get xs) (sym counted) ∙ led.there

  pub giver_within : m.place.giver < length xs
  giver_within = slice_get_within xs m.place.giver led.giver there

  pub giver_is : (x : X) → slice_get xs m.place.giver ≡ Some x → IsGiver names xs m x
  giver_is x e =
      let same : led.giver ≡ x = same_Some led.giver x (sym there ∙ e) in
      record { last = led.last ∙ ap Some same; first = ap (λ y. position (bytes_eq m.name) (names y)) (sym same) ∙ led.first }

  pub giver_at : (x : X) → x ≡ get_or xs m.place.giver x → IsGiver names xs m x
  giver_at x is = giver_is x (slice_get-get_or xs m.place.giver x giver_within ∙ ap Some (sym is))

module _ {A X : Type 0} (see : A → X) (names : X → List Bytes) (ys : List A) (m : MergedField) (given : IsGivenBy (map names (map see ys)) m) where
  -- the same of what is seen as a struct
  pub seen_within : m.place.giver < length ys
  seen_within = omega (arith, giver_within names (map see ys) m given, length-map ys see)

  pub seen_giver : (y : A) → y ≡ get_or ys m.place.giver y → IsGiver names (map see ys) m (see y)
  seen_giver y is =
      giver_is names (map see ys) m given (see y)
      (slice_get-map see ys m.place.giver ∙ ap (option_map see) (slice_get-get_or ys m.place.giver y seen_within ∙ ap Some (sym is)))
