-- Writing values one after the other, as a loop does.
use Rattle.std.proofs.Common.{◌≡◌, ◌≢◌, ℕ, zero, suc, ◌+◌, ◌-◌, ◌/◌, ◌%◌, ◌≤◌, ◌<◌, ◌&&◌, Bool, true, false, List, [], ◌∷◌, ◌++◌, length, map, drop, get_or, Some, None, refl, sym, ap, ◌∙◌, subst, append_assoc, arith}
use Rattle.std.specs.List.{slice_get}
use Rattle.std.specs.Prelude.{Result, Ok, Err, OnOk}
use Rattle.std.proofs.lemmas.Option.{none-some, same_Some}
use Rattle.std.proofs.lemmas.List.{append-nil, drop_more, drop_all, length-drop}
use Rattle.vx_dtype.specs.Types.{Bytes, Ty, Fields, no_fields, field}
use Rattle.vx_dtype.specs.Values.{Raw, Raws, no_raws, raw}
use Rattle.vx_dtype.specs.RawViews.{raws_of}
use Rattle.vx_dtype.specs.Fits.{fits, all_fit, fields_fit}
use Rattle.vx_dtype.specs.StructTypes.{field_types}
use Rattle.vx_wire_bytes.specs.Numbers.{number_bytes}
use Rattle.vx_wire_bytes.specs.Fields.{Extends, IsShort}
use Rattle.vx_wire_bytes.specs.ValueForms.{little_endian, raws_number, value_bytes, elements_bytes, members_bytes, TextsAre, AllTextsAre}
use Rattle.vx_dtype.proofs.FieldsFrom.{fields_from}
use Rattle.vx_wire_bytes.proofs.TypeWriting.{extends_by, extends_then}
use Rattle.vx_wire_bytes.proofs.LengthLemmas.{raws_number_map}

pub both_true : (a b : Bool) → (a && b) ≡ true → (a ≡ true) × (b ≡ true)
both_true true b e = (refl, e)
both_true false b e = absurd cc

module _ {A : Type 0} (see : A → Raw) where
  -- the values from a place on are the one there and those from the next place on
  pub raws_from : (xs : List A) (i : ℕ) (x : A) → i < length xs → x ≡ get_or xs i x → raws_of (map see (drop i xs)) ≡ raw (see x) (raws_of (map see (drop (i + 1) xs)))
  raws_from xs i x lt e = ap (λ ys. raws_of (map see ys)) (drop_more xs i x lt) ∙ ap (λ y. raw (see y) (raws_of (map see (drop (i + 1) xs)))) (sym e)

  pub raws_past : (xs : List A) (i : ℕ) → length xs ≤ i → raws_of (map see (drop i xs)) ≡ no_raws
  raws_past xs i le = ap (λ ys. raws_of (map see ys)) (drop_all i xs le)

  -- what was written and the elements from a place on are the spelling behind what stood there
  pub record IsWritingElements (old new : Bytes) (t : Ty) (xs : List A) (i : ℕ) : Type 0 where
    pub whole : new ++ elements_bytes t (raws_of (map see (drop i xs))) ≡ old ++ (number_bytes (raws_number (raws_of (map see xs))) ++ elements_bytes t (raws_of (map see xs)))
    pub fit : all_fit (raws_of (map see (drop i xs))) t ≡ true
    pub texts : AllTextsAre IsShort (raws_of (map see (drop i xs)))
    pub so_far : Extends old new

  pub elements_start : (old new : Bytes) (t : Ty) (xs : List A) (n : ℕ) → all_fit (raws_of (map see xs)) t ≡ true → AllTextsAre IsShort (raws_of (map see xs)) → n ≡ length xs → new ≡ old ++ number_bytes n → IsWritingElements old new t xs 0
  elements_start old new t xs n fit texts is e =
      let e' : new ≡ old ++ number_bytes (raws_number (raws_of (map see xs))) = e ∙ ap (λ k. old ++ number_bytes k) (is ∙ sym (raws_number_map see xs)) in
      record {
        whole = ap (λ (b : Bytes). b ++ elements_bytes t (raws_of (map see xs))) e' ∙ append_assoc old (number_bytes (raws_number (raws_of (map see xs)))) (elements_bytes t (raws_of (map see xs)));
        fit = fit;
        texts = texts;
        so_far = extends_by old new (number_bytes n) e;
      }

  pub element_here : (old new : Bytes) (t : Ty) (xs : List A) (i : ℕ) (x : A) → i < length xs → x ≡ get_or xs i x → IsWritingElements old new t xs i → (fits (see x) t ≡ true) × TextsAre IsShort (see x)
  unfolding all_fit
  element_here old new t xs i x lt e w =
      let here = raws_from xs i x lt e in
      let fit = both_true (fits (see x) t) (all_fit (raws_of (map see (drop (i + 1) xs))) t) (ap (λ ys. all_fit ys t) (sym here) ∙ w.fit) in
      (fit.0, (subst (AllTextsAre IsShort) here w.texts).0)

  pub elements_step : (old new after : Bytes) (t : Ty) (xs : List A) (i : ℕ) (x : A) → i < length xs → x ≡ get_or xs i x → after ≡ new ++ value_bytes t (see x) → IsWritingElements old new t xs i → IsWritingElements old after t xs (i + 1)
  unfolding all_fit
  elements_step old new after t xs i x lt e is w =
      let here = raws_from xs i x lt e in
      let others = elements_bytes t (raws_of (map see (drop (i + 1) xs))) in
      let fit = both_true (fits (see x) t) (all_fit (raws_of (map see (drop (i + 1) xs))) t) (ap (λ ys. all_fit ys t) (sym here) ∙ w.fit) in
      record {
        whole = ap (λ (b : Bytes). b ++ others) is ∙ append_assoc new (value_bytes t (see x)) others ∙ ap (λ ys. new ++ elements_bytes t ys) (sym here) ∙ w.whole;
        fit = fit.1;
        texts = (subst (AllTextsAre IsShort) here w.texts).1;
        so_far = extends_then old new after w.so_far (extends_by new after (value_bytes t (see x)) is);
      }

  pub elements_end : (old new : Bytes) (t : Ty) (xs : List A) (i : ℕ) → length xs ≤ i → IsWritingElements old new t xs i
      → new ≡ old ++ (number_bytes (raws_number (raws_of (map see xs))) ++ elements_bytes t (raws_of (map see xs)))
  elements_end old new t xs i le w = sym (append-nil new) ∙ ap (λ ys. new ++ elements_bytes t ys) (sym (raws_past xs i le)) ∙ w.whole

-- the field's type at a place, where there is one more raw value than before it
fields_from-at : (i : ℕ) (fs : Fields) (x : Raw) (xs : Raws) (t : Ty) → slice_get (field_types fs) i ≡ Some t → fields_fit (raw x xs) (fields_from i fs) ≡ true → (fits x t ≡ true) × (fields_fit xs (fields_from (suc i) fs) ≡ true)
unfolding fields_fit
fields_from-at zero no_fields x xs t a fit = absurd cc
fields_from-at (suc i) no_fields x xs t a fit = absurd cc
fields_from-at zero (field f u fs) x xs t a fit = let b = both_true (fits x u) (fields_fit xs fs) fit in (subst (λ v. fits x v ≡ true) (same_Some u t a) b.0, b.1)
fields_from-at (suc i) (field f u fs) x xs t a fit = fields_from-at i fs x xs t a fit

members_bytes-at : (i : ℕ) (fs : Fields) (x : Raw) (xs : Raws) (t : Ty) → slice_get (field_types fs) i ≡ Some t → members_bytes (fields_from i fs) (raw x xs) ≡ value_bytes t x ++ members_bytes (fields_from (suc i) fs) xs
members_bytes-at zero no_fields x xs t a = absurd cc
members_bytes-at (suc i) no_fields x xs t a = absurd cc
members_bytes-at zero (field f u fs) x xs t a = ap (λ v. value_bytes v x ++ members_bytes fs xs) (same_Some u t a)
members_bytes-at (suc i) (field f u fs) x xs t a = members_bytes-at i fs x xs t a

members_bytes-none : (fs : Fields) → members_bytes fs no_raws ≡ []
members_bytes-none no_fields = refl
members_bytes-none (field f t fs) = refl

has_type_from : (i : ℕ) (fs : Fields) (xs : Raws) → fields_fit xs (fields_from i fs) ≡ true → 0 < raws_number xs → None ≢ slice_get (field_types fs) i
unfolding fields_fit
has_type_from i fs no_raws fit some = absurd (omega (arith, some))
has_type_from zero no_fields (raw x xs) fit some = absurd cc
has_type_from (suc i) no_fields (raw x xs) fit some = absurd cc
has_type_from zero (field f t fs) (raw x xs) fit some = none-some t
has_type_from (suc i) (field f t fs) (raw x xs) fit some = has_type_from i fs (raw x xs) fit some

module _ {A : Type 0} (see : A → Raw) where
  -- what was written and the fields' values from a place on are the spelling behind what stood there
  pub record IsWritingMembers (old new : Bytes) (fs : Fields) (xs : List A) (i : ℕ) : Type 0 where
    pub whole : new ++ members_bytes (fields_from i fs) (raws_of (map see (drop i xs))) ≡ old ++ members_bytes fs (raws_of (map see xs))
    pub fit : fields_fit (raws_of (map see (drop i xs))) (fields_from i fs) ≡ true
    pub texts : AllTextsAre IsShort (raws_of (map see (drop i xs)))
    pub so_far : Extends old new

  pub member_has_type : (old new : Bytes) (fs : Fields) (xs : List A) (i : ℕ) → i < length xs → IsWritingMembers old new fs xs i → None ≢ slice_get (field_types fs) i
  member_has_type old new fs xs i lt w = has_type_from i fs (raws_of (map see (drop i xs))) w.fit (omega (arith, raws_number_map see (drop i xs), length-drop i xs))

  pub member_here : (old new : Bytes) (fs : Fields) (xs : List A) (i : ℕ) (x : A) (t : Ty) → i < length xs → x ≡ get_or xs i x → slice_get (field_types fs) i ≡ Some t → IsWritingMembers old new fs xs i → (fits (see x) t ≡ true) × TextsAre IsShort (see x)
  member_here old new fs xs i x t lt e a w =
      let here = raws_from see xs i x lt e in
      let fit = fields_from-at i fs (see x) (raws_of (map see (drop (i + 1) xs))) t a (ap (λ ys. fields_fit ys (fields_from i fs)) (sym here) ∙ w.fit) in
      (fit.0, (subst (AllTextsAre IsShort) here w.texts).0)

  pub members_step : (old new after : Bytes) (fs : Fields) (xs : List A) (i : ℕ) (x : A) (t : Ty) → i < length xs → x ≡ get_or xs i x → slice_get (field_types fs) i ≡ Some t → after ≡ new ++ value_bytes t (see x) → IsWritingMembers old new fs xs i → IsWritingMembers old after fs xs (i + 1)
  members_step old new after fs xs i x t lt e a is w =
      let k : i + 1 ≡ suc i = omega arith in
      let here = raws_from see xs i x lt e in
      let later = raws_of (map see (drop (i + 1) xs)) in
      let others = members_bytes (fields_from (suc i) fs) later in
      let fit = fields_from-at i fs (see x) later t a (ap (λ ys. fields_fit ys (fields_from i fs)) (sym here) ∙ w.fit) in
      record {
        whole = ap (λ j. after ++ members_bytes (fields_from j fs) later) k ∙ ap (λ (b : Bytes). b ++ others) is ∙ append_assoc new (value_bytes t (see x)) others
            ∙ ap (λ (b : Bytes). new ++ b) (sym (members_bytes-at i fs (see x) later t a) ∙ ap (members_bytes (fields_from i fs)) (sym here)) ∙ w.whole;
        fit = ap (λ j. fields_fit later (fields_from j fs)) k ∙ fit.1;
        texts = (subst (AllTextsAre IsShort) here w.texts).1;
        so_far = extends_then old new after w.so_far (extends_by new after (value_bytes t (see x)) is);
      }

  pub members_end : (old new : Bytes) (fs : Fields) (xs : List A) (i : ℕ) → length xs ≤ i → IsWritingMembers old new fs xs i → new ≡ old ++ members_bytes fs (raws_of (map see xs))
  members_end old new fs xs i le w = sym (append-nil new) ∙ ap (λ (b : Bytes). new ++ b) (sym (members_bytes-none (fields_from i fs)) ∙ ap (members_bytes (fields_from i fs)) (sym (raws_past see xs i le))) ∙ w.whole

pub little_endian_step : (width n : ℕ) → width ≢ 0 → little_endian width n ≡ n % 256 ∷ little_endian (width - 1) (n / 256)
little_endian_step zero n some = absurd (some refl)
little_endian_step (suc width) n some =
    let k : width ≡ suc width - 1 = omega arith in
    ap (λ w. n % 256 ∷ little_endian w (n / 256)) k

-- one item behind what stood there, and more behind it
pub then_more : (old new after more : Bytes) (b : ℕ) → new ≡ old ++ b ∷ [] → after ≡ new ++ more → after ≡ old ++ b ∷ more
then_more old new after more b e is = is ∙ ap (λ (x : Bytes). x ++ more) e ∙ append_assoc old (b ∷ []) more

-- what holds on ok, and what follows from it
pub ok_then : {A E P Q : Type 0} (r : Result A E) → (P → Q) → OnOk r P → OnOk r Q
ok_then (Ok x) f p = f p
ok_then (Err e) f p = p

pub value_is : (t u : Ty) (x y : Raw) → t ≡ u → x ≡ y → value_bytes t x ≡ value_bytes u y
value_is t u x y a b = ap (λ v. value_bytes v x) a ∙ ap (value_bytes u) b

pub fit_is : (t u : Ty) (x y : Raw) → t ≡ u → x ≡ y → fits x t ≡ true → fits y u ≡ true
fit_is t u x y a b fit = subst (λ z. fits z u ≡ true) b (subst (λ v. fits x v ≡ true) a fit)
