-- A value of a type is its raw value there, and the other way round; so cells are spelled so that none begins another.
use Rattle.std.proofs.Common.{◌≡◌, refl, sym, ap, ◌∙◌, subst, true, ◌&&◌}
use Rattle.std.specs.Str.{bytes_eq}
use Rattle.std.proofs.lemmas.Bool.{and_parts, and_from}
use Rattle.std.proofs.lemmas.Slice.Eq.{bytes_eq-Decides}
use Rattle.vx_dtype.specs.Types.{Ty, bool_ty, int_ty, text_ty, list_ty, struct_ty, Fields, no_fields, field}
use Rattle.vx_dtype.specs.TypeRules.{same_ptype}
use Rattle.vx_dtype.specs.Values.{Raw, raw_null, raw_bool, raw_int, raw_text, raw_list, raw_struct, Raws, no_raws, raw, Val, null_val, bool_val, int_val, text_val, list_val, struct_val, Vals, no_vals, val, Members, no_members, member, valued, all_valued, members_valued}
use Rattle.vx_dtype.specs.Fits.{in_range, fits, all_fit, fields_fit, val_fits, vals_fit, members_fit}
use Rattle.vx_dtype.specs.EqualLaws.{ptype_decides}
use Rattle.vx_dtype.proofs.ValuedLemmas.{val_fits_valued, valued-struct}
use Rattle.vx_wire_bytes.specs.Fields.{IsText}
use Rattle.vx_wire_bytes.specs.ValueForms.{TextsAre, IsValue}
use Rattle.vx_wire.proofs.FieldLemmas.{IsPrefixFree}
use Rattle.vx_wire.proofs.LiteralLemmas.{value_free}
use Rattle.vx_laws_file.specs.Cells.{raw_value, raw_values, raw_members, IsCell, cell_bytes}

mutual
  unfolding fits val_fits

  pub fits_raw : (v : Val) (t : Ty) → val_fits v t ≡ true → fits (raw_value v) t ≡ true
  fits_raw null_val t h = h
  fits_raw (bool_val b) (bool_ty n) h = refl
  fits_raw (int_val p i) (int_ty q n) h = (and_parts (same_ptype p q) (in_range q i) h).1
  fits_raw (text_val s) (text_ty n) h = refl
  fits_raw (list_val xs) (list_ty e n) h = all_fit_raw xs e h
  fits_raw (struct_val ms) (struct_ty fs n) h = fields_fit_raw ms fs h
  fits_raw _ _ h = absurd cc

  all_fit_raw : (xs : Vals) (t : Ty) → vals_fit xs t ≡ true → all_fit (raw_values xs) t ≡ true
  all_fit_raw no_vals t h = refl
  all_fit_raw (val x xs) t h =
      let parts = and_parts (val_fits x t) (vals_fit xs t) h in
      and_from (fits (raw_value x) t) (all_fit (raw_values xs) t) (fits_raw x t parts.0) (all_fit_raw xs t parts.1)

  fields_fit_raw : (ms : Members) (fs : Fields) → members_fit ms fs ≡ true → fields_fit (raw_members ms) fs ≡ true
  fields_fit_raw no_members no_fields h = refl
  fields_fit_raw (member f x ms) (field g t fs) h =
      let parts = and_parts (bytes_eq f g) (val_fits x t && members_fit ms fs) h in
      let rest = and_parts (val_fits x t) (members_fit ms fs) parts.1 in
      and_from (fits (raw_value x) t) (fields_fit (raw_members ms) fs) (fits_raw x t rest.0) (fields_fit_raw ms fs rest.1)
  fields_fit_raw _ _ h = absurd cc

mutual
  unfolding valued val_fits

  pub valued_raw : (v : Val) (t : Ty) → val_fits v t ≡ true → valued (raw_value v) t ≡ v
  valued_raw null_val t h = refl
  valued_raw (bool_val b) (bool_ty n) h = refl
  valued_raw (int_val p i) (int_ty q n) h =
      let same : p ≡ q = (ptype_decides p q).0 (and_parts (same_ptype p q) (in_range q i) h).0 in
      ap (λ r. int_val r i) (sym same)
  valued_raw (text_val s) (text_ty n) h = refl
  valued_raw (list_val xs) (list_ty e n) h = ap list_val (all_valued_raw xs e h)
  valued_raw (struct_val ms) (struct_ty fs n) h = valued-struct (raw_members ms) fs n (fields_fit_raw ms fs h) ∙ ap struct_val (members_valued_raw ms fs h)
  valued_raw _ _ h = absurd cc

  all_valued_raw : (xs : Vals) (t : Ty) → vals_fit xs t ≡ true → all_valued (raw_values xs) t ≡ xs
  all_valued_raw no_vals t h = refl
  all_valued_raw (val x xs) t h =
      let parts = and_parts (val_fits x t) (vals_fit xs t) h in
      let here = valued_raw x t parts.0 in
      let rest = all_valued_raw xs t parts.1 in
      λ i. val (here i) (rest i)

  members_valued_raw : (ms : Members) (fs : Fields) → members_fit ms fs ≡ true → members_valued (raw_members ms) fs ≡ ms
  members_valued_raw no_members no_fields h = refl
  members_valued_raw (member f x ms) (field g t fs) h =
      let parts = and_parts (bytes_eq f g) (val_fits x t && members_fit ms fs) h in
      let more = and_parts (val_fits x t) (members_fit ms fs) parts.1 in
      let name : g ≡ f = sym ((bytes_eq-Decides f g).0 parts.0) in
      let here = valued_raw x t more.0 in
      let rest = members_valued_raw ms fs more.1 in
      λ i. member (name i) (here i) (rest i)
  members_valued_raw _ _ h = absurd cc

mutual
  unfolding valued fits

  pub raw_valued : (x : Raw) (t : Ty) → fits x t ≡ true → raw_value (valued x t) ≡ x
  raw_valued raw_null t h = refl
  raw_valued (raw_bool b) (bool_ty n) h = refl
  raw_valued (raw_int i) (int_ty p n) h = refl
  raw_valued (raw_text s) (text_ty n) h = refl
  raw_valued (raw_list xs) (list_ty e n) h = ap raw_list (raws_valued xs e h)
  raw_valued (raw_struct xs) (struct_ty fs n) h = ap raw_value (valued-struct xs fs n h) ∙ ap raw_struct (raw_members_valued xs fs h)
  raw_valued _ _ h = absurd cc

  raws_valued : (xs : Raws) (t : Ty) → all_fit xs t ≡ true → raw_values (all_valued xs t) ≡ xs
  raws_valued no_raws t h = refl
  raws_valued (raw x xs) t h =
      let parts = and_parts (fits x t) (all_fit xs t) h in
      let here = raw_valued x t parts.0 in
      let rest = raws_valued xs t parts.1 in
      λ i. raw (here i) (rest i)

  raw_members_valued : (xs : Raws) (fs : Fields) → fields_fit xs fs ≡ true → raw_members (members_valued xs fs) ≡ xs
  raw_members_valued no_raws no_fields h = refl
  raw_members_valued (raw x xs) (field f t fs) h =
      let parts = and_parts (fits x t) (fields_fit xs fs) h in
      let here = raw_valued x t parts.0 in
      let rest = raw_members_valued xs fs parts.1 in
      λ i. raw (here i) (rest i)
  raw_members_valued _ _ h = absurd cc

-- ---- cells

pub cell_value : (t : Ty) (v : Val) → IsCell t v → IsValue t (raw_value v)
cell_value t v p = record { fit = fits_raw v t p.fit; texts = p.texts }

pub value_cell : (t : Ty) (x : Raw) → fits x t ≡ true → TextsAre IsText x → IsCell t (valued x t)
value_cell t x f q = record { fit = val_fits_valued x t f; texts = subst (TextsAre IsText) (sym (raw_valued x t f)) q }

pub cell_free : (t : Ty) → IsPrefixFree (cell_bytes t) (IsCell t)
cell_free t a b x y p q e =
    let raws = value_free t (raw_value a) (raw_value b) x y (cell_value t a p) (cell_value t b q) e in
    (sym (valued_raw a t p.fit) ∙ ap (λ r. valued r t) raws.0 ∙ valued_raw b t q.fit, raws.1)
