-- Row texts, as loops write them: what was written and what is left.
use Rattle.std.proofs.Common.{◌≡◌, true, ℕ, zero, suc, ◌+◌, ◌<◌, ◌≤◌, List, [], ◌∷◌, ◌++◌, length, map, drop, Some, codes, refl, sym, ap, ◌∙◌, append_assoc, append-nil, arith}
use Rattle.std.proofs.Math.ListN.{get_or}
use Rattle.std.specs.List.{slice_get}
use Rattle.std.proofs.lemmas.Bool.{and_parts}
use Rattle.std.proofs.lemmas.List.{drop_more, drop_all}
use Rattle.std.proofs.lemmas.Option.{same_Some}
use Rattle.vx_dtype.specs.Fits.{fits, all_fit, fields_fit}
use Rattle.vx_dtype.specs.Types.{Bytes, Ty, Fields, no_fields, field}
use Rattle.vx_dtype.specs.TypeRules.{field_names}
use Rattle.vx_dtype.specs.StructTypes.{field_types}
use Rattle.vx_dtype.specs.Values.{Raw, Raws, no_raws, raw}
use Rattle.vx_dtype.specs.Texts.{quoted_text}
use Rattle.vx_dtype.specs.RawViews.{raws_of}
use Rattle.vx_dtype.proofs.FieldsFrom.{fields_from, fields_from-here, fields_from-past}
use Rattle.vx_display.specs.RowTexts.{row_text_of, elements_text, members_text}

module _ {V : Type 0} (show : V → Raw) where
  -- from a place within on the text is that of the value there and of those behind it
  pub elements_text-step : (before : Bytes) (vs : List V) (t : Ty) (i : ℕ) (v : V) → i < length vs → get_or vs i v ≡ v
      → elements_text before (raws_of (map show (drop i vs))) t ≡ before ++ (row_text_of (show v) t ++ elements_text (codes ",") (raws_of (map show (drop (i + 1) vs))) t)
  unfolding elements_text
  elements_text-step before vs t i v h e =
      ap (λ ws. elements_text before (raws_of (map show ws)) t) (drop_more vs i v h)
      ∙ ap (λ x. before ++ (row_text_of (show x) t ++ elements_text (codes ",") (raws_of (map show (drop (i + 1) vs))) t)) e

  pub elements_text-end : (before : Bytes) (vs : List V) (t : Ty) (i : ℕ) → length vs ≤ i → elements_text before (raws_of (map show (drop i vs))) t ≡ []
  unfolding elements_text
  elements_text-end before vs t i le = ap (λ ws. elements_text before (raws_of (map show ws)) t) (drop_all i vs le)

  -- the same of fields, each behind its name
  pub members_text-step : (before : Bytes) (vs : List V) (fs : Fields) (i : ℕ) (v : V) (f : Bytes) (t : Ty) → i < length vs → get_or vs i v ≡ v → slice_get (field_names fs) i ≡ Some f → slice_get (field_types fs) i ≡ Some t
      → members_text before (raws_of (map show (drop i vs))) (fields_from i fs)
      ≡ before ++ (quoted_text f ++ (codes ":" ++ (row_text_of (show v) t ++ members_text (codes ",") (raws_of (map show (drop (i + 1) vs))) (fields_from (i + 1) fs))))
  unfolding members_text
  members_text-step before vs fs i v f t h e n d =
      let next : suc i ≡ i + 1 = omega arith in
      ap (λ ws. members_text before (raws_of (map show ws)) (fields_from i fs)) (drop_more vs i v h)
      ∙ ap (λ gs. members_text before (raws_of (map show (get_or vs i v ∷ drop (i + 1) vs))) gs) (fields_from-here i fs f t n d)
      ∙ ap (λ x. before ++ (quoted_text f ++ (codes ":" ++ (row_text_of (show x) t ++ members_text (codes ",") (raws_of (map show (drop (i + 1) vs))) (fields_from (suc i) fs))))) e
      ∙ ap (λ j. before ++ (quoted_text f ++ (codes ":" ++ (row_text_of (show v) t ++ members_text (codes ",") (raws_of (map show (drop (i + 1) vs))) (fields_from j fs))))) next

  pub members_text-no_value : (before : Bytes) (vs : List V) (fs : Fields) (i : ℕ) → length vs ≤ i → members_text before (raws_of (map show (drop i vs))) (fields_from i fs) ≡ []
  unfolding members_text
  members_text-no_value before vs fs i le = ap (λ ws. members_text before (raws_of (map show ws)) (fields_from i fs)) (drop_all i vs le)

pub members_text-no_field : (before : Bytes) (xs : Raws) (fs : Fields) (i : ℕ) → length (field_names fs) ≤ i → members_text before xs (fields_from i fs) ≡ []
unfolding members_text
members_text-no_field before no_raws fs i le = refl
members_text-no_field before (raw x xs) fs i le = ap (members_text before (raw x xs)) (fields_from-past i fs le)

module _ {V : Type 0} (show : V → Raw) where
  -- each of several values of a type is one of the type
  pub all_fit_at : (vs : List V) (t : Ty) (i : ℕ) (v : V) → all_fit (raws_of (map show vs)) t ≡ true → i < length vs → get_or vs i v ≡ v → fits (show v) t ≡ true
  unfolding fits
  all_fit_at [] t i v h lt e = absurd (omega (arith, lt))
  all_fit_at (w ∷ vs) t zero v h lt e = ap (λ x. fits (show x) t) (sym e) ∙ (and_parts (fits (show w) t) (all_fit (raws_of (map show vs)) t) h).0
  all_fit_at (w ∷ vs) t (suc i) v h lt e =
      all_fit_at vs t i v (and_parts (fits (show w) t) (all_fit (raws_of (map show vs)) t) h).1 (omega (arith, lt)) e

  -- each of the values of fields is one of its field's type
  pub fields_fit_at : (vs : List V) (fs : Fields) (i : ℕ) (v : V) (t : Ty) → fields_fit (raws_of (map show vs)) fs ≡ true → i < length vs → get_or vs i v ≡ v → slice_get (field_types fs) i ≡ Some t → fits (show v) t ≡ true
  unfolding fits
  fields_fit_at [] fs i v t h lt e s = absurd (omega (arith, lt))
  fields_fit_at (w ∷ vs) no_fields i v t h lt e s = absurd cc
  fields_fit_at (w ∷ vs) (field f u fs) zero v t h lt e s =
      ap (λ x. fits (show x) t) (sym e) ∙ ap (fits (show w)) (sym (same_Some u t s)) ∙ (and_parts (fits (show w) u) (fields_fit (raws_of (map show vs)) fs) h).0
  fields_fit_at (w ∷ vs) (field f u fs) (suc i) v t h lt e s =
      fields_fit_at vs fs i v t (and_parts (fits (show w) u) (fields_fit (raws_of (map show vs)) fs) h).1 (omega (arith, lt)) e s

-- what was written before, and its parts behind it, with what is left behind them
pub written_two : (b c d x y left whole : Bytes) → c ≡ b ++ x → d ≡ c ++ y → b ++ (x ++ (y ++ left)) ≡ whole → d ++ left ≡ whole
written_two b c d x y left whole p q e =
    ap (λ (z : Bytes). z ++ left) (q ∙ ap (λ (z : Bytes). z ++ y) p) ∙ append_assoc (b ++ x) y left ∙ append_assoc b x (y ++ left) ∙ e

pub written_four : (b c d f g x y z w left whole : Bytes) → c ≡ b ++ x → d ≡ c ++ y → f ≡ d ++ z → g ≡ f ++ w → b ++ (x ++ (y ++ (z ++ (w ++ left)))) ≡ whole → g ++ left ≡ whole
written_four b c d f g x y z w left whole p q r s e =
    written_two d f g z w left whole r s (written_two b c d x y (z ++ (w ++ left)) whole p q e)

-- the last part, where nothing is left before it
pub written_last : (start b c x left rest whole : Bytes) → c ≡ b ++ x → left ≡ [] → b ++ left ≡ start ++ (rest ++ whole) → c ≡ start ++ (rest ++ (whole ++ x))
written_last start b c x left rest whole p none e =
    p ∙ ap (λ (z : Bytes). z ++ x) (sym (append-nil b) ∙ ap (λ (z : Bytes). b ++ z) (sym none) ∙ e) ∙ append_assoc start (rest ++ whole) x ∙ ap (λ (z : Bytes). start ++ z) (append_assoc rest whole x)
