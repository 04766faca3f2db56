-- Equality and hash between what the code holds and the values at rows.
use Rattle.std.proofs.Common.{◌≡◌, refl, ap, ◌∙◌, sym, Bool, true, false, ◌++◌}
use Rattle.std.specs.Prelude.{Decides}
use Rattle.std.specs.Hash as fed
use Rattle.vx_dtype.specs.Types.{Ty, bool_ty, int_ty, text_ty, list_ty, struct_ty, Fields, no_fields, field}
use Rattle.vx_dtype.specs.Values.{Raw, raw_null, raw_bool, raw_int, raw_text, raw_list, raw_struct, Raws, no_raws, raw, valued, all_valued, members_valued, null_val, struct_val}
use Rattle.vx_dtype.specs.Fits.{fits, all_fit, fields_fit}
use Rattle.vx_dtype.specs.Feeds.{raw_feed, raws_feed}
use Rattle.vx_column.specs.Columns.{Column}
use Rattle.vx_column.specs.ColumnEqual.{val_feed, vals_feed, members_feed}
use Rattle.vx_dtype.proofs.ValuedLemmas.{valued-struct}
use Rattle.vx_column.proofs.FitLemmas.{both_of}

mutual
  unfolding fits valued

  -- raw values of one type that stand for the same are the same
  pub valued-same : (t : Ty) (x y : Raw) → fits x t ≡ true → fits y t ≡ true → valued x t ≡ valued y t → x ≡ y
  valued-same t raw_null raw_null a b e = refl
  valued-same (bool_ty n) (raw_bool i) (raw_bool j) a b e = cc
  valued-same (int_ty p n) (raw_int i) (raw_int j) a b e = cc
  valued-same (text_ty n) (raw_text i) (raw_text j) a b e = cc
  valued-same (list_ty t n) (raw_list xs) (raw_list ys) a b e =
      let inner : all_valued xs t ≡ all_valued ys t = cc in
      ap raw_list (all_valued-same t xs ys a b inner)
  valued-same (struct_ty fs n) (raw_struct xs) (raw_struct ys) a b e =
      let whole : struct_val (members_valued xs fs) ≡ struct_val (members_valued ys fs) = sym (valued-struct xs fs n a) ∙ e ∙ valued-struct ys fs n b in
      let inner : members_valued xs fs ≡ members_valued ys fs = cc in
      ap raw_struct (members_valued-same fs xs ys a b inner)
  valued-same (struct_ty fs n) raw_null (raw_struct ys) a b e =
      let whole : null_val ≡ struct_val (members_valued ys fs) = e ∙ valued-struct ys fs n b in
      absurd cc
  valued-same (struct_ty fs n) (raw_struct xs) raw_null a b e =
      let whole : struct_val (members_valued xs fs) ≡ null_val = sym (valued-struct xs fs n a) ∙ e in
      absurd cc
  valued-same (bool_ty n) _ _ a b e = cc
  valued-same (int_ty p n) _ _ a b e = cc
  valued-same (text_ty n) _ _ a b e = cc
  valued-same (list_ty t n) _ _ a b e = cc
  valued-same (struct_ty fs n) _ _ a b e = cc

  pub all_valued-same : (t : Ty) (xs ys : Raws) → all_fit xs t ≡ true → all_fit ys t ≡ true → all_valued xs t ≡ all_valued ys t → xs ≡ ys
  all_valued-same t no_raws no_raws a b e = refl
  all_valued-same t (raw x xs) (raw y ys) a b e =
      let h = both_of (fits x t) (all_fit xs t) a in
      let k = both_of (fits y t) (all_fit ys t) b in
      let here : valued x t ≡ valued y t = cc in
      let rest : all_valued xs t ≡ all_valued ys t = cc in
      λ i. raw (valued-same t x y h.0 k.0 here i) (all_valued-same t xs ys h.1 k.1 rest i)
  all_valued-same t _ _ a b e = cc

  pub members_valued-same : (fs : Fields) (xs ys : Raws) → fields_fit xs fs ≡ true → fields_fit ys fs ≡ true → members_valued xs fs ≡ members_valued ys fs → xs ≡ ys
  members_valued-same no_fields no_raws no_raws a b e = refl
  members_valued-same (field f t fs) (raw x xs) (raw y ys) a b e =
      let h = both_of (fits x t) (fields_fit xs fs) a in
      let k = both_of (fits y t) (fields_fit ys fs) b in
      let here : valued x t ≡ valued y t = cc in
      let rest : members_valued xs fs ≡ members_valued ys fs = cc in
      λ i. raw (valued-same t x y h.0 k.0 here i) (members_valued-same fs xs ys h.1 k.1 rest i)
  members_valued-same _ _ _ a b e = cc

mutual
  unfolding fits valued raw_feed val_feed

  -- what a hash takes in of a raw value is what it takes in of the value that it stands for
  pub val_feed-valued : (t : Ty) (x : Raw) → fits x t ≡ true → val_feed (valued x t) ≡ raw_feed x
  val_feed-valued t raw_null a = refl
  val_feed-valued (bool_ty n) (raw_bool i) a = refl
  val_feed-valued (int_ty p n) (raw_int i) a = refl
  val_feed-valued (text_ty n) (raw_text i) a = refl
  val_feed-valued (list_ty t n) (raw_list xs) a = ap (λ w. fed.u8 4 ++ w) (vals_feed-valued t xs a)
  val_feed-valued (struct_ty fs n) (raw_struct xs) a = ap val_feed (valued-struct xs fs n a) ∙ ap (λ w. fed.u8 5 ++ w) (members_feed-valued fs xs a)
  val_feed-valued _ _ a = cc

  pub vals_feed-valued : (t : Ty) (xs : Raws) → all_fit xs t ≡ true → vals_feed (all_valued xs t) ≡ raws_feed xs
  vals_feed-valued t no_raws a = refl
  vals_feed-valued t (raw x xs) a =
      let h = both_of _ _ a in
      λ i. fed.u8 1 ++ val_feed-valued t x h.0 i ++ vals_feed-valued t xs h.1 i

  pub members_feed-valued : (fs : Fields) (xs : Raws) → fields_fit xs fs ≡ true → members_feed (members_valued xs fs) ≡ raws_feed xs
  members_feed-valued no_fields no_raws a = refl
  members_feed-valued (field f t fs) (raw x xs) a =
      let h = both_of _ _ a in
      λ i. fed.u8 1 ++ val_feed-valued t x h.0 i ++ members_feed-valued fs xs h.1 i
  members_feed-valued _ _ a = cc

-- columns of two types are not the same
pub types_answer : (c d : Column) (b : Bool) → Decides b (c.ty ≡ d.ty) → b ≡ false → Decides b (c ≡ d)
types_answer c d b h e = (λ k. absurd cc, λ k. h.1 (ap (λ z. z.ty) k))

-- two tests that decide the same are the same
pub decide_same : (P : Type 0) (b c : Bool) → Decides b P → Decides c P → b ≡ c
decide_same P true c h k = sym (k.1 (h.0 refl))
decide_same P false true h k = h.1 (k.0 refl)
decide_same P false false h k = refl
