-- What is shorter than 2 ^ 32, and UTF-8, has a spelling.
use Rattle.std.proofs.Common.{◌≡◌, ℕ, suc, ◌+◌, ◌≤◌, true, false, List, [], ◌∷◌, length, map, Some, refl, sym, subst, arith}
use Rattle.std.specs.List.{slice_get}
use Rattle.std.specs.Prelude.{Decides}
use Rattle.vx_dtype.specs.Types.{Bytes, Ty, Fields}
use Rattle.vx_dtype.specs.Values.{Raw, raw_null, raw_bool, raw_int, raw_text, raw_list, raw_struct, Raws, no_raws, raw}
use Rattle.vx_dtype.specs.RawViews.{raws_of}
use Rattle.vx_dtype.specs.TypeRules.{field_names}
use Rattle.vx_dtype.specs.StructTypes.{field_types}
use Rattle.vx_wire_bytes.specs.Fields.{IsShort, IsText}
use Rattle.vx_wire_bytes.specs.TypeForms.{NamesAre, FieldNamesAre, HasNames, HaveNames}
use Rattle.vx_wire_bytes.specs.ValueForms.{raws_number, TextsAre, AllTextsAre}
use Rattle.vx_dtype.proofs.FieldsFrom.{fields_from, fields_from-here, fields_from-past}

-- the fields before a place are short, so those from it on decide
pub record IsTestingFields (fs : Fields) (i : ℕ) : Type 0 where
  pub back : HaveNames (fields_from i fs) → HaveNames fs
  pub shorts : FieldNamesAre IsShort (fields_from i fs) → FieldNamesAre IsShort fs
  pub forth : FieldNamesAre IsShort fs → FieldNamesAre IsShort (fields_from i fs)

pub fields_go_on : (fs : Fields) (i : ℕ) (f : Bytes) (t : Ty) → slice_get (field_names fs) i ≡ Some f → slice_get (field_types fs) i ≡ Some t → IsText f → NamesAre IsShort t → HasNames t → IsTestingFields fs i → IsTestingFields fs (i + 1)
fields_go_on fs i f t a b name short names w =
    let k : suc i ≡ i + 1 = omega arith in
    let here = fields_from-here i fs f t a b in
    let next : IsTestingFields fs (suc i) = record {
      back = λ h. w.back (subst HaveNames (sym here) (name, names, h));
      shorts = λ h. w.shorts (subst (FieldNamesAre IsShort) (sym here) (name.short, short, h));
      forth = λ h. (subst (FieldNamesAre IsShort) here (w.forth h)).2;
    } in
    subst (IsTestingFields fs) k next

pub long_name : (fs : Fields) (i : ℕ) (f : Bytes) (t : Ty) → slice_get (field_names fs) i ≡ Some f → slice_get (field_types fs) i ≡ Some t → IsTestingFields fs i → FieldNamesAre IsShort fs → IsShort f × NamesAre IsShort t
long_name fs i f t a b w h = let here = subst (FieldNamesAre IsShort) (fields_from-here i fs f t a b) (w.forth h) in (here.0, here.1)

pub fields_pass : (fs : Fields) (i : ℕ) → length (field_names fs) ≤ i → IsTestingFields fs i → HaveNames fs × FieldNamesAre IsShort fs
fields_pass fs i le w =
    let none = fields_from-past i fs le in
    (w.back (subst HaveNames (sym none) tt), w.shorts (subst (FieldNamesAre IsShort) (sym none) tt))

-- a test that failed decides what cannot be
pub decides_no : {P : Type 0} → ¬ P → Decides false P
decides_no never = (λ e. absurd cc, λ p. absurd (never p))

pub decides_yes : {P : Type 0} → P → Decides true P
decides_yes p = (λ e. p, λ q. refl)

module _ {A : Type 0} (see : A → Raw) where
  pub raws_number_map : (xs : List A) → raws_number (raws_of (map see xs)) ≡ length xs
  raws_number_map [] = refl
  raws_number_map (x ∷ xs) = omega (arith, raws_number_map xs)

mutual
  pub texts_short : (x : Raw) → TextsAre IsText x → TextsAre IsShort x
  texts_short raw_null h = tt
  texts_short (raw_bool b) h = tt
  texts_short (raw_int i) h = tt
  texts_short (raw_text s) h = h.short
  texts_short (raw_list xs) h = (h.0, all_texts_short xs h.1)
  texts_short (raw_struct xs) h = all_texts_short xs h

  all_texts_short : (xs : Raws) → AllTextsAre IsText xs → AllTextsAre IsShort xs
  all_texts_short no_raws h = tt
  all_texts_short (raw x xs) h = (texts_short x h.0, all_texts_short xs h.1)
