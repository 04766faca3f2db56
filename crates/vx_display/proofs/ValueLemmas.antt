-- The text of a raw value of a type is that of the value that it stands for.
use Rattle.std.proofs.Common.{◌≡◌, true, ◌++◌, codes, refl, sym, ap, ◌∙◌}
use Rattle.std.proofs.lemmas.Bool.{and_parts}
use Rattle.vx_dtype.specs.Types.{Bytes, Ty, bool_ty, int_ty, text_ty, list_ty, struct_ty, Fields, no_fields, field}
use Rattle.vx_dtype.specs.Texts.{quoted_text}
use Rattle.vx_dtype.specs.Values.{Raw, raw_null, raw_bool, raw_int, raw_text, raw_list, raw_struct, Raws, no_raws, raw, valued, all_valued, members_valued}
use Rattle.vx_dtype.specs.Fits.{fits, all_fit, fields_fit}
use Rattle.vx_dtype.proofs.ValuedLemmas.{valued-struct}
use Rattle.vx_display.specs.RowTexts.{row_text_of, elements_text, members_text}
use Rattle.vx_display.specs.ValueTexts.{value_text, values_text, named_values_text}

mutual
  unfolding row_text_of value_text valued fits

  pub row_text_of_valued : (x : Raw) (t : Ty) → fits x t ≡ true → row_text_of x t ≡ value_text (valued x t)
  row_text_of_valued raw_null t h = refl
  row_text_of_valued (raw_bool b) (bool_ty n) h = refl
  row_text_of_valued (raw_int i) (int_ty p n) h = refl
  row_text_of_valued (raw_text s) (text_ty n) h = refl
  row_text_of_valued (raw_list xs) (list_ty e n) h = ap (λ (s : Bytes). codes "[" ++ (s ++ codes "]")) (elements_text_valued (codes "") xs e h)
  row_text_of_valued (raw_struct xs) (struct_ty fs n) h =
      ap (λ (s : Bytes). codes "{" ++ (s ++ codes "}")) (members_text_valued (codes "") xs fs h) ∙ ap value_text (sym (valued-struct xs fs n h))
  row_text_of_valued _ _ h = absurd cc

  pub elements_text_valued : (before : Bytes) (xs : Raws) (t : Ty) → all_fit xs t ≡ true → elements_text before xs t ≡ values_text before (all_valued xs t)
  elements_text_valued before no_raws t h = refl
  elements_text_valued before (raw x xs) t h = let parts = and_parts (fits x t) (all_fit xs t) h in
      ap (λ (a : Bytes). before ++ (a ++ elements_text (codes ",") xs t)) (row_text_of_valued x t parts.0) ∙ ap (λ (b : Bytes). before ++ (value_text (valued x t) ++ b)) (elements_text_valued (codes ",") xs t parts.1)

  pub members_text_valued : (before : Bytes) (xs : Raws) (fs : Fields) → fields_fit xs fs ≡ true → members_text before xs fs ≡ named_values_text before (members_valued xs fs)
  members_text_valued before no_raws no_fields h = refl
  members_text_valued before (raw x xs) (field f t fs) h = let parts = and_parts (fits x t) (fields_fit xs fs) h in
      ap (λ (a : Bytes). before ++ (quoted_text f ++ (codes ":" ++ (a ++ members_text (codes ",") xs fs)))) (row_text_of_valued x t parts.0)
      ∙ ap (λ (b : Bytes). before ++ (quoted_text f ++ (codes ":" ++ (value_text (valued x t) ++ b)))) (members_text_valued (codes ",") xs fs parts.1)
  members_text_valued before _ _ h = absurd cc
