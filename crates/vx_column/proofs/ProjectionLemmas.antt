-- Some of the fields of a struct: their places, their values, and a type of them.
use Rattle.std.proofs.Common.{◌≡◌, refl, ap, ◌∙◌, sym, subst, ℕ, zero, suc, ◌<◌, Bool, true, false, ◌&&◌, Option, Some, None, IsSome, option_map, unwrap_or, cond, List, [], ◌∷◌, map, length, get_or, arith}
use Rattle.std.specs.List.{AllZip, All}
use Rattle.std.specs.Str.{bytes_eq}
use Rattle.vx_dtype.specs.Types.{Bytes, Ty, struct_ty, Fields, no_fields, field}
use Rattle.vx_dtype.specs.declared.Nullability.{Nullability}
use Rattle.vx_dtype.specs.TypeRules.{field_names, field_type, distinct_names, no_name_twice, no_name_twice_below}
use Rattle.vx_dtype.specs.StructTypes.{projected}
use Rattle.vx_dtype.proofs.ProjectionLemmas.{before, types_named, projected_named, projected_names}
use Rattle.vx_dtype.specs.Structs.{field_of, members_at, selected}
use Rattle.vx_dtype.specs.Zipped.{zipped}
use Rattle.vx_dtype.specs.Values.{Val, valued, members_valued, member, raw_struct, struct_val, fault}
use Rattle.vx_dtype.specs.Fits.{fits, fields_fit}
use Rattle.vx_dtype.specs.RawViews.{raw_view, raws_of}
use Rattle.vx_dtype.specs.declared.values.ScalarValue.{ScalarValue}
use Rattle.vx_dtype.proofs.ValuedLemmas.{valued-struct}
use Rattle.vx_column.specs.Columns.{seen}
use Rattle.vx_column.specs.Answers.{type_at_place}
use Rattle.vx_column.specs.StructColumns.{place_of, IsAtPlace}
use Rattle.vx_column.proofs.FitLemmas.{both_of, of_both}
use Rattle.vx_column.proofs.FieldLemmas.{raw_at, raw_at_view, field_first, position_is, position_within, place_typed, fields_fit_length, field_missing}

-- a place is that of a name
abbrev pub IsPlaceOf : Fields → Bytes → ℕ → Type 0
IsPlaceOf gs f p = place_of gs f ≡ Some p

pub placed_all : (gs : Fields) (fs : List Bytes) (ps : List ℕ) → map (place_of gs) fs ≡ map Some ps → AllZip (IsPlaceOf gs) fs ps
placed_all gs [] [] e = tt
placed_all gs [] (p ∷ ps) e = absurd cc
placed_all gs (f ∷ fs) [] e = absurd cc
placed_all gs (f ∷ fs) (p ∷ ps) e =
    let here : place_of gs f ≡ Some p = cc in
    let rest : map (place_of gs) fs ≡ map Some ps = cc in
    (here, placed_all gs fs ps rest)

-- where a name is missing, there are no such fields
before_none : (o : Option Ty) → before o None ≡ None
before_none None = refl
before_none (Some t) = refl

pub named_missing : (fs : List Bytes) (gs : Fields) (i : ℕ) (f : Bytes) → i < length fs → f ≡ get_or fs i f → field_type f gs ≡ None → types_named fs gs ≡ None
named_missing [] gs i f h p e = absurd (omega arith)
named_missing (g ∷ fs) gs zero f h p e = ap (λ o. before o (types_named fs gs)) (ap (λ n. field_type n gs) (sym p) ∙ e)
named_missing (g ∷ fs) gs (suc i) f h p e = ap (before (field_type g gs)) (named_missing fs gs i f (omega arith) p e) ∙ before_none (field_type g gs)

-- the places of names are within
pub places_within : (gs : Fields) (fs : List Bytes) (ps : List ℕ) (n : ℕ) → length (field_names gs) ≡ n → AllZip (IsPlaceOf gs) fs ps → All (λ p. p < n) ps
places_within gs [] [] n e h k d q = absurd (omega arith)
places_within gs [] (p ∷ ps) n e h k d q = absurd h
places_within gs (f ∷ fs) [] n e h k d q = absurd h
places_within gs (f ∷ fs) (p ∷ ps) n e h zero d q = omega (arith, e, position_within f gs p h.0)
places_within gs (f ∷ fs) (p ∷ ps) n e h (suc k) d q = places_within gs fs ps n e h.1 k d (omega arith)

-- the value at the place of a name is one of the field's type, and stands for the field
pub field_taken : (f : Bytes) (gs : Fields) (p : ℕ) (xs : List ScalarValue) (y : ScalarValue) (t : Ty) → IsPlaceOf gs f p → fields_fit (raws_of (map raw_view xs)) gs ≡ true → IsAtPlace xs p y → field_type f gs ≡ Some t → (fits (raw_view y) t ≡ true) × (seen t y ≡ field_of f (struct_val (members_valued (raws_of (map raw_view xs)) gs)))
field_taken f gs p xs y t q h a e =
    let inside = position_within f gs p q in
    let within : p < length xs = omega (arith, fields_fit_length xs gs h, inside) in
    let known = field_first f gs (raws_of (map raw_view xs)) p (raw_view y) (type_at_place gs p) h (position_is (bytes_eq f) (field_names gs) p q) (place_typed gs p inside) in
    let here : raw_at (raws_of (map raw_view xs)) p (raw_view y) ≡ raw_view y = raw_at_view xs p y within ∙ sym (a y) in
    let typed : Some (type_at_place gs p) ≡ Some t = sym known.typed ∙ e in
    let same : type_at_place gs p ≡ t = cc in (
      (λ j. fits (sym here j) (sym same j)) ∙ known.fit,
      (λ j. valued (sym here j) (sym same j)) ∙ sym (ap (λ o. unwrap_or o fault) known.named),
    )

-- values of a type of fields that stand for the members
abbrev pub AreMembers : List Bytes → Fields → List ScalarValue → List ScalarValue → Fields → Type 0
AreMembers fs gs xs ys made = (fields_fit (raws_of (map raw_view ys)) made ≡ true) × (members_valued (raws_of (map raw_view ys)) made ≡ members_at fs (struct_val (members_valued (raws_of (map raw_view xs)) gs)))

taken_step : (f : Bytes) (fs : List Bytes) (gs : Fields) (p : ℕ) (xs : List ScalarValue) (y : ScalarValue) (ys : List ScalarValue) (ts : List Ty) (o : Option Ty) (r : Option (List Ty)) → field_type f gs ≡ o → before o r ≡ Some ts → IsPlaceOf gs f p → fields_fit (raws_of (map raw_view xs)) gs ≡ true → IsAtPlace xs p y → ((us : List Ty) → r ≡ Some us → AreMembers fs gs xs ys (zipped fs us)) → AreMembers (f ∷ fs) gs xs (y ∷ ys) (zipped (f ∷ fs) ts)
unfolding fits valued
taken_step f fs gs p xs y ys ts None r e q place h a rest = absurd cc
taken_step f fs gs p xs y ys ts (Some t) None e q place h a rest = absurd cc
taken_step f fs gs p xs y ys ts (Some t) (Some us) e q place h a rest =
    let here = field_taken f gs p xs y t place h a e in
    let others = rest us refl in
    let same : t ∷ us ≡ ts = cc in
    subst (λ ws. AreMembers (f ∷ fs) gs xs (y ∷ ys) (zipped (f ∷ fs) ws)) same (of_both _ _ here.0 others.0, λ j. member f (here.1 j) (others.1 j))

pub members_taken : (fs : List Bytes) (gs : Fields) (ps : List ℕ) (xs ys : List ScalarValue) (ts : List Ty) → types_named fs gs ≡ Some ts → fields_fit (raws_of (map raw_view xs)) gs ≡ true → AllZip (IsPlaceOf gs) fs ps → AllZip (IsAtPlace xs) ps ys → AreMembers fs gs xs ys (zipped fs ts)
unfolding fits valued
members_taken [] gs [] xs [] ts e h p a = (refl, refl)
members_taken [] gs [] xs (y ∷ ys) ts e h p a = absurd a
members_taken [] gs (q ∷ ps) xs ys ts e h p a = absurd p
members_taken (f ∷ fs) gs [] xs ys ts e h p a = absurd p
members_taken (f ∷ fs) gs (q ∷ ps) xs [] ts e h p a = absurd a
members_taken (f ∷ fs) gs (q ∷ ps) xs (y ∷ ys) ts e h p a =
    taken_step f fs gs q xs y ys ts (field_type f gs) (types_named fs gs) refl e p.0 h a.0 (λ us k. members_taken fs gs ps xs ys us k h p.1 a.1)

projected_step : (fs : List Bytes) (gs : Fields) (xs ys : List ScalarValue) (made : Fields) (r : Option (List Ty)) → option_map (zipped fs) r ≡ Some made → ((ts : List Ty) → r ≡ Some ts → AreMembers fs gs xs ys (zipped fs ts)) → AreMembers fs gs xs ys made
projected_step fs gs xs ys made None e h = absurd cc
projected_step fs gs xs ys made (Some ts) e h = let same : zipped fs ts ≡ made = cc in subst (AreMembers fs gs xs ys) same (h ts refl)

pub projected_members : (fs : List Bytes) (gs : Fields) (ps : List ℕ) (xs ys : List ScalarValue) (made : Fields) → projected fs gs ≡ Some made → fields_fit (raws_of (map raw_view xs)) gs ≡ true → AllZip (IsPlaceOf gs) fs ps → AllZip (IsAtPlace xs) ps ys → AreMembers fs gs xs ys made
projected_members fs gs ps xs ys made e h p a = projected_step fs gs xs ys made (types_named fs gs) (sym (projected_named fs gs) ∙ e) (λ ts k. members_taken fs gs ps xs ys ts k h p a)

-- a clone of the value at a place
default_less : (xs : List ScalarValue) (p : ℕ) (d e : ScalarValue) → p < length xs → get_or xs p d ≡ get_or xs p e
default_less [] p d e h = absurd (omega arith)
default_less (x ∷ xs) zero d e h = refl
default_less (x ∷ xs) (suc p) d e h = default_less xs p d e (omega arith)

pub at_place : (xs : List ScalarValue) (p : ℕ) (x y : ScalarValue) → p < length xs → x ≡ get_or xs p x → raw_view y ≡ raw_view x → IsAtPlace xs p y
at_place xs p x y h e q d = q ∙ ap raw_view (e ∙ default_less xs p x d h)

-- a type of some of a type's fields has no name twice where the names are asked once
type_named_step : (g : Bytes) (u : Ty) (gs : Fields) (t : Ty) (b : Bool) (o : Option Ty) → cond b (Some u) o ≡ Some t → no_name_twice u && no_name_twice_below gs ≡ true → (no_name_twice_below gs ≡ true → o ≡ Some t → no_name_twice t ≡ true) → no_name_twice t ≡ true
unfolding no_name_twice
type_named_step g u gs t true o e h rest = let same : u ≡ t = cc in ap no_name_twice (sym same) ∙ (both_of (no_name_twice u) (no_name_twice_below gs) h).0
type_named_step g u gs t false o e h rest = rest (both_of (no_name_twice u) (no_name_twice_below gs) h).1 e

type_named : (f : Bytes) (gs : Fields) (t : Ty) → no_name_twice_below gs ≡ true → field_type f gs ≡ Some t → no_name_twice t ≡ true
unfolding no_name_twice
type_named f no_fields t h e = absurd cc
type_named f (field g u gs) t h e = type_named_step g u gs t (bytes_eq f g) (field_type f gs) e h (type_named f gs t)

names_step : (f : Bytes) (fs : List Bytes) (gs : Fields) (ts : List Ty) (o : Option Ty) (r : Option (List Ty)) → field_type f gs ≡ o → before o r ≡ Some ts → no_name_twice_below gs ≡ true → ((us : List Ty) → r ≡ Some us → (no_name_twice_below (zipped fs us) ≡ true) × (field_names (zipped fs us) ≡ fs)) → (no_name_twice_below (zipped (f ∷ fs) ts) ≡ true) × (field_names (zipped (f ∷ fs) ts) ≡ f ∷ fs)
unfolding no_name_twice
names_step f fs gs ts None r e q h rest = absurd cc
names_step f fs gs ts (Some t) None e q h rest = absurd cc
names_step f fs gs ts (Some t) (Some us) e q h rest =
    let others = rest us refl in
    let same : t ∷ us ≡ ts = cc in
    subst (λ ws. (no_name_twice_below (zipped (f ∷ fs) ws) ≡ true) × (field_names (zipped (f ∷ fs) ws) ≡ f ∷ fs)) same (of_both _ _ (type_named f gs t h e) others.0, ap (λ ns. f ∷ ns) others.1)

names_named : (fs : List Bytes) (gs : Fields) (ts : List Ty) → no_name_twice_below gs ≡ true → types_named fs gs ≡ Some ts → (no_name_twice_below (zipped fs ts) ≡ true) × (field_names (zipped fs ts) ≡ fs)
unfolding no_name_twice
names_named [] gs ts h e = (refl, refl)
names_named (f ∷ fs) gs ts h e = names_step f fs gs ts (field_type f gs) (types_named fs gs) refl e h (λ us k. names_named fs gs us h k)

names_projected_step : (fs : List Bytes) (gs made : Fields) (n : Nullability) (r : Option (List Ty)) → option_map (zipped fs) r ≡ Some made → distinct_names fs ≡ true → ((ts : List Ty) → r ≡ Some ts → (no_name_twice_below (zipped fs ts) ≡ true) × (field_names (zipped fs ts) ≡ fs)) → no_name_twice (struct_ty made n) ≡ true
unfolding no_name_twice
names_projected_step fs gs made n None e d h = absurd cc
names_projected_step fs gs made n (Some ts) e d h =
    let told = h ts refl in
    let same : zipped fs ts ≡ made = cc in
    subst (λ ms. no_name_twice (struct_ty ms n) ≡ true) same (of_both _ _ (ap distinct_names told.1 ∙ d) told.0)

pub names_projected : (fs : List Bytes) (gs made : Fields) (n : Nullability) → no_name_twice_below gs ≡ true → projected fs gs ≡ Some made → distinct_names fs ≡ true → no_name_twice (struct_ty made n) ≡ true
names_projected fs gs made n h e d = names_projected_step fs gs made n (types_named fs gs) (sym (projected_named fs gs) ∙ e) d (λ ts k. names_named fs gs ts h k)

-- names stand once where those of the fields that are projected by them do
pub distinct_projected : (fs own : List Bytes) (gs made : Fields) (b : Bool) → projected fs gs ≡ Some made → own ≡ field_names made → b ≡ distinct_names own → b ≡ true → distinct_names fs ≡ true
distinct_projected fs own gs made b found is told so = ap distinct_names (sym (is ∙ projected_names fs gs made found)) ∙ sym told ∙ so

-- where there are fields of all the names, each name has a place
there_step : (fs : List Bytes) (gs : Fields) (i : ℕ) (f : Bytes) (o : Option ℕ) → i < length fs → f ≡ get_or fs i f → IsSome (projected fs gs) → place_of gs f ≡ o → IsSome o
there_step fs gs i f None h p s e =
    let none : projected fs gs ≡ None = projected_named fs gs ∙ ap (option_map (zipped fs)) (named_missing fs gs i f h p (field_missing f gs e)) in
    subst IsSome none s
there_step fs gs i f (Some q) h p s e = refl

pub named_there : (fs : List Bytes) (gs : Fields) (i : ℕ) (f : Bytes) → i < length fs → f ≡ get_or fs i f → IsSome (projected fs gs) → IsSome (place_of gs f)
named_there fs gs i f h p s = there_step fs gs i f (place_of gs f) h p s refl

-- the values of the fields are of the type of them, and stand for the struct of them
pub taken_fits : (fs : List Bytes) (gs made : Fields) (n : Nullability) (xs ys : List ScalarValue) (x : ScalarValue) → AreMembers fs gs xs ys made → raw_view x ≡ raw_struct (raws_of (map raw_view ys)) → fits (raw_view x) (struct_ty made n) ≡ true
unfolding fits
taken_fits fs gs made n xs ys x h p = ap (λ r. fits r (struct_ty made n)) p ∙ h.0

pub taken_stands : (fs : List Bytes) (gs made : Fields) (n : Nullability) (xs ys : List ScalarValue) (x : ScalarValue) (v : Val) → AreMembers fs gs xs ys made → raw_view x ≡ raw_struct (raws_of (map raw_view ys)) → v ≡ struct_val (members_valued (raws_of (map raw_view xs)) gs) → seen (struct_ty made n) x ≡ selected fs v
unfolding valued
taken_stands fs gs made n xs ys x v h p e = ap (λ r. valued r (struct_ty made n)) p ∙ valued-struct (raws_of (map raw_view ys)) made n h.0 ∙ ap struct_val h.1 ∙ ap (selected fs) (sym e)
