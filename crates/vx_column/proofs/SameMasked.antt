-- Equality of columns at a row, where a column may mask another.
use Rattle.std.proofs.Common.{◌≡◌, refl, ap, ◌∙◌, sym, ℕ, ◌<◌, Bool, true, false, not, List, [], ◌∷◌, length, arith}
use Rattle.std.specs.Prelude.{Decides}
use Rattle.std.specs.List.{AllZip}
use Rattle.vx_dtype.specs.Types.{Bytes, Ty, bool_ty, int_ty, text_ty, list_ty, struct_ty}
use Rattle.vx_dtype.specs.declared.Nullability.TheVariants.{NonNullable, Nullable}
use Rattle.vx_dtype.specs.TypeRules.{field_names, fields_of, is_nullable, nullability_of, with_nullability}
use Rattle.vx_dtype.specs.Values.{Val, null_val, bool_val, int_val, text_val, list_val, struct_val, fault, Raw, raw_null, raw_bool, raw_int, raw_text, raw_list, raw_struct, Members, member}
use Rattle.vx_dtype.specs.Logic.{is_null3}
use Rattle.vx_dtype.specs.Fits.{fits}
use Rattle.vx_dtype.specs.RawViews.{raw_view}
use Rattle.vx_dtype.specs.declared.values.ScalarValue.{ScalarValue}
use Rattle.vx_column.specs.RawParts.{is_raw_null}
use Rattle.vx_column.specs.Columns.{Column, row_at, rows_fit, seen}
use Rattle.vx_column.specs.StructColumns.{row_members}
use Rattle.vx_column.specs.Cells.{structs_of, masks_apart, AreFieldsOf, HasAt, SameAt}
use Rattle.vx_column.proofs.FitLemmas.{is_null3_valued, valued_with_nullability}
use Rattle.vx_column.proofs.MaskedLemmas.{apart_whole, inner_never_null}
use Rattle.vx_column.proofs.SameLemmas.{same_members}
use Rattle.vx_column.proofs.CellLemmas.{fields_number, structs_row}

-- a value of a type made nullable is one of the type where it isn't null
fits_within : (x : Raw) (t : Ty) → fits x (with_nullability t Nullable) ≡ true → is_raw_null x ≡ false → fits x t ≡ true
unfolding fits
fits_within raw_null t e k = absurd cc
fits_within (raw_bool b) (bool_ty m) e k = refl
fits_within (raw_int i) (int_ty p m) e k = e
fits_within (raw_text s) (text_ty m) e k = refl
fits_within (raw_list xs) (list_ty t m) e k = e
fits_within (raw_struct xs) (struct_ty fs m) e k = e
fits_within _ _ e k = absurd cc

pub value_within : (t u : Ty) (x : ScalarValue) (k : Bool) → t ≡ with_nullability u Nullable → fits (raw_view x) t ≡ true → k ≡ is_raw_null (raw_view x) → k ≡ false → fits (raw_view x) u ≡ true
value_within t u x k w f e h = fits_within (raw_view x) u (ap (fits (raw_view x)) (sym w) ∙ f) (sym e ∙ h)

-- types that aren't nullable are the same where they are when made nullable
whole_again : (t : Ty) → is_nullable (nullability_of t) ≡ false → with_nullability (with_nullability t Nullable) NonNullable ≡ t
whole_again (bool_ty NonNullable) e = refl
whole_again (int_ty p NonNullable) e = refl
whole_again (text_ty NonNullable) e = refl
whole_again (list_ty u NonNullable) e = refl
whole_again (struct_ty fs NonNullable) e = refl
whole_again _ e = absurd cc

pub types_within : (t u v : Ty) → t ≡ with_nullability u Nullable → t ≡ with_nullability v Nullable → masks_apart u ≡ true → masks_apart v ≡ true → u ≡ v
types_within t u v e f a b =
    sym (whole_again u (apart_whole u a)) ∙ ap (λ w. with_nullability w NonNullable) (sym e ∙ f) ∙ whole_again v (apart_whole v b)

-- whether a value at a row is null
null_told : (v : Val) (b : Bool) → is_null3 v ≡ bool_val b → Decides b (v ≡ null_val)
null_told null_val true e = (λ h. refl, λ p. refl)
null_told null_val false e = absurd cc
null_told (bool_val x) true e = absurd cc
null_told (bool_val x) false e = (λ h. absurd cc, λ p. absurd cc)
null_told (int_val q x) true e = absurd cc
null_told (int_val q x) false e = (λ h. absurd cc, λ p. absurd cc)
null_told (text_val x) true e = absurd cc
null_told (text_val x) false e = (λ h. absurd cc, λ p. absurd cc)
null_told (list_val x) true e = absurd cc
null_told (list_val x) false e = (λ h. absurd cc, λ p. absurd cc)
null_told (struct_val x) true e = absurd cc
null_told (struct_val x) false e = (λ h. absurd cc, λ p. absurd cc)
null_told fault b e = absurd cc

unlike : (v w : Val) (b : Bool) → is_null3 v ≡ bool_val false → is_null3 w ≡ bool_val true → b ≡ false → Decides b (v ≡ w)
unlike v w b e f h =
    let never : (p : v ≡ w) → bool_val false ≡ bool_val true = λ p. sym e ∙ ap is_null3 p ∙ f in
    (λ k. absurd cc, λ p. let clash : bool_val false ≡ bool_val true = never p in absurd cc)

null_seen : (t : Ty) (x : ScalarValue) (k b : Bool) → fits (raw_view x) t ≡ true → k ≡ is_raw_null (raw_view x) → k ≡ b → is_null3 (seen t x) ≡ bool_val b
null_seen t x k b f e h = is_null3_valued (raw_view x) t f ∙ ap bool_val (sym e ∙ h)

-- a masked column has a value at a row where both are null, or where the column within has it
pub has_null : (c : Column) (i : ℕ) (x : ScalarValue) (b : Bool) → fits (raw_view x) c.ty ≡ true → row_at c i ≡ null_val → b ≡ is_raw_null (raw_view x) → Decides b (HasAt i c x)
has_null c i x b f r e =
    let told = null_told (seen c.ty x) b (null_seen c.ty x b b f e refl) in
    (λ h. r ∙ sym (told.0 h), λ p. told.1 (sym p ∙ r))

pub has_within : (c d : Column) (i : ℕ) (x : ScalarValue) (b : Bool) → c.ty ≡ with_nullability d.ty Nullable → row_at c i ≡ row_at d i → Decides b (HasAt i d x) → Decides b (HasAt i c x)
has_within c d i x b w r h =
    let value : seen c.ty x ≡ seen d.ty x = ap (λ t. seen t x) w ∙ valued_with_nullability (raw_view x) d.ty Nullable in
    (λ e. r ∙ h.0 e ∙ sym value, λ p. h.1 (sym r ∙ p ∙ value))

pub has_no_null : (c d : Column) (i : ℕ) (x : ScalarValue) (k : Bool) → masks_apart d.ty ≡ true → rows_fit d.ty d.rows ≡ true → i < length d.rows → row_at c i ≡ row_at d i → fits (raw_view x) c.ty ≡ true → k ≡ is_raw_null (raw_view x) → k ≡ true → Decides (not k) (HasAt i c x)
has_no_null c d i x k a g w r f e h = unlike (row_at c i) (seen c.ty x) (not k) (ap is_null3 r ∙ inner_never_null d i a g w) (null_seen c.ty x k true f e h) (ap not h)

-- two columns have the same value at a row where one has the value that the other keeps there
pub same_kept : (c d : Column) (i : ℕ) (x : ScalarValue) (b : Bool) → c.ty ≡ d.ty → seen c.ty x ≡ row_at c i → Decides b (HasAt i d x) → Decides b (SameAt i c d)
same_kept c d i x b t s h =
    let value : row_at c i ≡ seen d.ty x = sym s ∙ ap (λ u. seen u x) t in
    (λ e. value ∙ sym (h.0 e), λ p. h.1 (sym p ∙ value))

-- and where both are null, or where the column within a masked one has the value of the other
pub same_null : (c d : Column) (i : ℕ) (b : Bool) → row_at c i ≡ null_val → is_null3 (row_at d i) ≡ bool_val b → Decides b (SameAt i c d)
same_null c d i b r e =
    let told = null_told (row_at d i) b e in
    (λ h. r ∙ sym (told.0 h), λ p. told.1 (sym p ∙ r))

pub same_within : (c d e : Column) (i : ℕ) (b : Bool) → row_at c i ≡ row_at d i → Decides b (SameAt i d e) → Decides b (SameAt i c e)
same_within c d e i b r h = (λ k. r ∙ h.0 k, λ p. h.1 (sym r ∙ p))

pub within_same : (c d e : Column) (i : ℕ) (b : Bool) → row_at c i ≡ row_at d i → Decides b (SameAt i e d) → Decides b (SameAt i e c)
within_same c d e i b r h = (λ k. h.0 k ∙ sym r, λ p. h.1 (p ∙ r))

-- a column has at a row the value that is kept there for another of the type made nullable, if it isn't null
pub within_kept : (c d : Column) (i : ℕ) (x : ScalarValue) (b : Bool) → c.ty ≡ with_nullability d.ty Nullable → seen c.ty x ≡ row_at c i → Decides b (HasAt i d x) → Decides b (SameAt i d c)
within_kept c d i x b w s h =
    let value : seen d.ty x ≡ row_at c i = sym (ap (λ t. seen t x) w ∙ valued_with_nullability (raw_view x) d.ty Nullable) ∙ s in
    (λ e. h.0 e ∙ value, λ p. h.1 (p ∙ sym value))

pub within_no_null : (c d : Column) (i : ℕ) (k : Bool) → masks_apart d.ty ≡ true → rows_fit d.ty d.rows ≡ true → i < length d.rows → row_at c i ≡ null_val → k ≡ true → Decides (not k) (SameAt i d c)
within_no_null c d i k a g w r h = unlike (row_at d i) (row_at c i) (not k) (inner_never_null d i a g w) (ap is_null3 r) (ap not h)

pub null_kept : (c : Column) (i : ℕ) (x : ScalarValue) (k : Bool) → fits (raw_view x) c.ty ≡ true → seen c.ty x ≡ row_at c i → k ≡ is_raw_null (raw_view x) → k ≡ true → row_at c i ≡ null_val
null_kept c i x k f s e h = sym s ∙ (null_told (seen c.ty x) true (null_seen c.ty x k true f e h)).0 refl

-- columns of fields have the same values at a row where the structs of the row are the same
members_same : (i : ℕ) (fs : List Bytes) (cs ds : List Column) → AllZip (SameAt i) cs ds → row_members fs cs i ≡ row_members fs ds i
members_same i [] cs ds h = refl
members_same i (f ∷ fs) [] [] h = refl
members_same i (f ∷ fs) [] (d ∷ ds) h = absurd h
members_same i (f ∷ fs) (c ∷ cs) [] h = absurd h
members_same i (f ∷ fs) (c ∷ cs) (d ∷ ds) h = λ j. member f (h.0 j) (members_same i fs cs ds h.1 j)

member_value : {f g : Bytes} {v w : Val} {ms ns : Members} → member f v ms ≡ member g w ns → v ≡ w
member_value e = cc

member_rest : {f g : Bytes} {v w : Val} {ms ns : Members} → member f v ms ≡ member g w ns → ms ≡ ns
member_rest e = cc

same_by_members : (i : ℕ) (fs : List Bytes) (cs ds : List Column) → length fs ≡ length cs → length fs ≡ length ds → row_members fs cs i ≡ row_members fs ds i → AllZip (SameAt i) cs ds
same_by_members i [] [] [] l m h = tt
same_by_members i [] [] (d ∷ ds) l m h = absurd (omega (arith, m))
same_by_members i [] (c ∷ cs) ds l m h = absurd (omega (arith, l))
same_by_members i (f ∷ fs) [] ds l m h = absurd (omega (arith, l))
same_by_members i (f ∷ fs) (c ∷ cs) [] l m h = absurd (omega (arith, m))
same_by_members i (f ∷ fs) (c ∷ cs) (d ∷ ds) l m h = (member_value h, same_by_members i fs cs ds (omega (arith, l)) (omega (arith, m)) (member_rest h))

pub same_structs : (c d : Column) (i : ℕ) (cs ds : List Column) (m n : ℕ) (b : Bool) → c.ty ≡ d.ty → AreFieldsOf c.ty cs m → AreFieldsOf d.ty ds n → structs_of (field_names (fields_of c.ty)) cs m ≡ c.rows → structs_of (field_names (fields_of d.ty)) ds n ≡ d.rows → i < length c.rows → i < length d.rows → Decides b (AllZip (SameAt i) cs ds) → Decides b (SameAt i c d)
same_structs c d i cs ds m n b t g h p q v w k =
    let names : field_names (fields_of d.ty) ≡ field_names (fields_of c.ty) = ap (λ u. field_names (fields_of u)) (sym t) in
    let left : struct_val (row_members (field_names (fields_of c.ty)) cs i) ≡ row_at c i = structs_row c (field_names (fields_of c.ty)) cs m i p v in
    let right : struct_val (row_members (field_names (fields_of c.ty)) ds i) ≡ row_at d i = ap (λ gs. struct_val (row_members gs ds i)) (sym names) ∙ structs_row d (field_names (fields_of d.ty)) ds n i q w in
    let number : length (field_names (fields_of c.ty)) ≡ length ds = ap length (sym names) ∙ fields_number d.ty ds n h in (
      λ e. sym left ∙ ap struct_val (members_same i (field_names (fields_of c.ty)) cs ds (k.0 e)) ∙ right,
      λ e. k.1 (same_by_members i (field_names (fields_of c.ty)) cs ds (fields_number c.ty cs m g) number (same_members (left ∙ e ∙ sym right))),
    )
