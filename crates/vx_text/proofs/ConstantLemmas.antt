-- The texts of types of fields, and of values, from a place on are that of the one there and those behind it.
use Rattle.std.proofs.Common.{◌≡◌, ℕ, suc, ◌+◌, ◌<◌, ◌≤◌, List, [], ◌∷◌, ◌++◌, length, map, drop, Some, codes, ap, ◌∙◌, arith}
use Rattle.std.proofs.Math.ListN.{get_or}
use Rattle.std.specs.List.{slice_get}
use Rattle.std.proofs.lemmas.List.{drop_more, drop_all}
use Rattle.vx_dtype.specs.Types.{Bytes, Ty, Fields}
use Rattle.vx_dtype.specs.TypeRules.{field_names}
use Rattle.vx_dtype.specs.StructTypes.{field_types}
use Rattle.vx_dtype.specs.Values.{Raw}
use Rattle.vx_dtype.specs.RawViews.{raws_of}
use Rattle.vx_dtype.proofs.FieldsFrom.{fields_from, fields_from-here, fields_from-past}
use Rattle.vx_tokens.specs.Names.{name_text}
use Rattle.vx_text.specs.Writing.{type_text, labels_text, item_text, items_text}

pub labels_text_step : (before : Bytes) (fs : Fields) (i : ℕ) (f : Bytes) (t : Ty) → slice_get (field_names fs) i ≡ Some f → slice_get (field_types fs) i ≡ Some t
    → labels_text before (fields_from i fs) ≡ before ++ (name_text f ++ (codes ": " ++ (type_text t ++ labels_text (codes ", ") (fields_from (i + 1) fs))))
unfolding type_text
labels_text_step before fs i f t n d =
    let next : suc i ≡ i + 1 = omega arith in
    ap (labels_text before) (fields_from-here i fs f t n d)
    ∙ ap (λ j. before ++ (name_text f ++ (codes ": " ++ (type_text t ++ labels_text (codes ", ") (fields_from j fs))))) next

pub labels_text_end : (before : Bytes) (fs : Fields) (i : ℕ) → length (field_names fs) ≤ i → labels_text before (fields_from i fs) ≡ []
unfolding type_text
labels_text_end before fs i le = ap (labels_text before) (fields_from-past i fs le)

module _ {V : Type 0} (show : V → Raw) where
  pub items_text_step : (before : Bytes) (vs : List V) (i : ℕ) (v : V) → i < length vs → get_or vs i v ≡ v
      → items_text before (raws_of (map show (drop i vs))) ≡ before ++ (item_text (show v) ++ items_text (codes ", ") (raws_of (map show (drop (i + 1) vs))))
  unfolding item_text
  items_text_step before vs i v h e =
      ap (λ ws. items_text before (raws_of (map show ws))) (drop_more vs i v h)
      ∙ ap (λ w. items_text before (raws_of (map show (w ∷ drop (i + 1) vs)))) e

  pub items_text_end : (before : Bytes) (vs : List V) (i : ℕ) → length vs ≤ i → items_text before (raws_of (map show (drop i vs))) ≡ []
  unfolding item_text
  items_text_end before vs i h = ap (λ ws. items_text before (raws_of (map show ws))) (drop_all i vs h)
