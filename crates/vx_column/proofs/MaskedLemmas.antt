-- Columns whose rows are those of another, null where truths say so.
use Rattle.std.proofs.Common.{◌≡◌, refl, ap, ◌∙◌, sym, subst, ℕ, zero, suc, ◌<◌, Bool, true, false, not, ◌&&◌, Option, Some, None, cond, List, [], ◌∷◌, map, length, get_or, arith}
use Rattle.std.proofs.Math.ListN.{replicate}
use Rattle.std.proofs.lemmas.List.{length-replicate}
use Rattle.vx_dtype.specs.declared.Nullability.{Nullability}
use Rattle.vx_dtype.specs.declared.Nullability.TheVariants.{Nullable}
use Rattle.vx_dtype.specs.Types.{Ty, bool_ty, int_ty, text_ty, list_ty, struct_ty}
use Rattle.vx_dtype.specs.TypeRules.{is_bool_ty, is_int_ty, is_text_ty, is_nullable, nullability_of, with_nullability}
use Rattle.vx_dtype.specs.Values.{Val, null_val, bool_val, int_val, text_val, list_val, struct_val, raw_null, valued}
use Rattle.vx_dtype.specs.Logic.{is_true_val, is_null3}
use Rattle.vx_dtype.specs.Fits.{fits, val_fits}
use Rattle.vx_dtype.specs.RawViews.{raw_view}
use Rattle.vx_dtype.specs.declared.values.ScalarValue.{ScalarValue}
use Rattle.vx_words.specs.Truths.{is_true, vals_of}
use Rattle.vx_column.specs.Columns.{Column, row_at, rows_fit, seen, masked, zip_rows}
use Rattle.vx_column.specs.StructColumns.{StandsAt}
use Rattle.vx_column.specs.Cells.{AreMaskedOf, masks_apart}
use Rattle.vx_column.specs.ColumnParts.{keeps_values, null_by}
use Rattle.vx_column.proofs.FitLemmas.{both_of, of_both, valued_with_nullability, fits_nullable, nullability_with, never_null}
use Rattle.vx_column.proofs.TruthLemmas.{is_true_of}

-- the types whose columns are masked by truths beside them
not_false : (b : Bool) → not b ≡ true → b ≡ false
not_false true e = absurd cc
not_false false e = refl

pub apart_whole : (t : Ty) → masks_apart t ≡ true → is_nullable (nullability_of t) ≡ false
apart_whole t e = not_false _ (both_of _ (not (is_bool_ty t) && not (is_int_ty t)) e).0

pub apart_not_bool : (t : Ty) → masks_apart t ≡ true → is_bool_ty t ≡ false
apart_not_bool t e = not_false _ (both_of (not (is_bool_ty t)) _ (both_of (not (is_nullable (nullability_of t))) _ e).1).0

pub apart_not_int : (t : Ty) → masks_apart t ≡ true → is_int_ty t ≡ false
apart_not_int t e = not_false _ (both_of (not (is_bool_ty t)) _ (both_of (not (is_nullable (nullability_of t))) _ e).1).1

-- what another nullability changes nothing of
pub bool_with : (t : Ty) (n : Nullability) → is_bool_ty (with_nullability t n) ≡ is_bool_ty t
bool_with (bool_ty m) n = refl
bool_with (int_ty p m) n = refl
bool_with (text_ty m) n = refl
bool_with (list_ty e m) n = refl
bool_with (struct_ty fs m) n = refl

pub int_with : (t : Ty) (n : Nullability) → is_int_ty (with_nullability t n) ≡ is_int_ty t
int_with (bool_ty m) n = refl
int_with (int_ty p m) n = refl
int_with (text_ty m) n = refl
int_with (list_ty e m) n = refl
int_with (struct_ty fs m) n = refl

pub text_with : (t : Ty) (n : Nullability) → is_text_ty (with_nullability t n) ≡ is_text_ty t
text_with (bool_ty m) n = refl
text_with (int_ty p m) n = refl
text_with (text_ty m) n = refl
text_with (list_ty e m) n = refl
text_with (struct_ty fs m) n = refl

pub keeps_with : (t : Ty) (n : Nullability) → keeps_values (with_nullability t n) ≡ keeps_values t
keeps_with (bool_ty m) n = refl
keeps_with (int_ty p m) n = refl
keeps_with (text_ty m) n = refl
keeps_with (list_ty e m) n = refl
keeps_with (struct_ty fs m) n = refl

-- a masked column is neither boolean nor of an integer type
pub masked_not_bool : (t : Ty) (d : Column) (ts : List (Option Bool)) → AreMaskedOf t d ts → is_bool_ty t ≡ false
masked_not_bool t d ts h = ap is_bool_ty h.whole ∙ bool_with d.ty Nullable ∙ apart_not_bool d.ty h.apart

pub masked_not_int : (t : Ty) (d : Column) (ts : List (Option Bool)) → AreMaskedOf t d ts → is_int_ty t ≡ false
masked_not_int t d ts h = ap is_int_ty h.whole ∙ int_with d.ty Nullable ∙ apart_not_int d.ty h.apart

pub masked_nullable : (t : Ty) (d : Column) (ts : List (Option Bool)) → AreMaskedOf t d ts → is_nullable (nullability_of t) ≡ true
masked_nullable t d ts h = ap (λ u. is_nullable (nullability_of u)) h.whole ∙ ap is_nullable (nullability_with d.ty Nullable)

pub masked_keeps : (t : Ty) (d : Column) (ts : List (Option Bool)) → AreMaskedOf t d ts → keeps_values t ≡ true → keeps_values d.ty ≡ true
masked_keeps t d ts h k = sym (ap keeps_values h.whole ∙ keeps_with d.ty Nullable) ∙ k

-- there are as many rows as within, and each is null where the truth is true
pub masked_number : (vs : List Val) (ts : List (Option Bool)) → length ts ≡ length vs → length (zip_rows masked vs (vals_of ts)) ≡ length vs
masked_number [] ts e = refl
masked_number (v ∷ vs) [] e = absurd (omega (arith, e))
masked_number (v ∷ vs) (t ∷ ts) e = ap (λ n. suc n) (masked_number vs ts (omega (arith, e)))

pub masked_there : (vs : List Val) (ts : List (Option Bool)) (i : ℕ) → length ts ≡ length vs → i < length vs → get_or (zip_rows masked vs (vals_of ts)) i null_val ≡ cond (is_true (get_or ts i None)) null_val (get_or vs i null_val)
masked_there [] ts i e h = absurd (omega arith)
masked_there (v ∷ vs) [] i e h = absurd (omega (arith, e))
masked_there (v ∷ vs) (t ∷ ts) zero e h = ap (λ b. cond b null_val v) (is_true_of t)
masked_there (v ∷ vs) (t ∷ ts) (suc i) e h = masked_there vs ts i (omega (arith, e)) (omega arith)

pub masked_length : (c d : Column) (ts : List (Option Bool)) → AreMaskedOf c.ty d ts → zip_rows masked d.rows (vals_of ts) ≡ c.rows → length d.rows ≡ length c.rows
masked_length c d ts h r = sym (masked_number d.rows ts h.lengths) ∙ ap length r

pub masked_truths : (c d : Column) (ts : List (Option Bool)) → AreMaskedOf c.ty d ts → zip_rows masked d.rows (vals_of ts) ≡ c.rows → length ts ≡ length c.rows
masked_truths c d ts h r = h.lengths ∙ masked_length c d ts h r

pub masked_row : (c d : Column) (ts : List (Option Bool)) (i : ℕ) (b : Bool) → AreMaskedOf c.ty d ts → zip_rows masked d.rows (vals_of ts) ≡ c.rows → i < length c.rows → b ≡ is_true (get_or ts i None) → row_at c i ≡ cond b null_val (row_at d i)
masked_row c d ts i b h r w e =
    ap (λ vs. get_or vs i null_val) (sym r) ∙ masked_there d.rows ts i h.lengths (omega (arith, masked_length c d ts h r)) ∙ ap (λ k. cond k null_val (row_at d i)) (sym e)

pub masked_null : (c d : Column) (ts : List (Option Bool)) (i : ℕ) (b : Bool) → AreMaskedOf c.ty d ts → zip_rows masked d.rows (vals_of ts) ≡ c.rows → i < length c.rows → b ≡ is_true (get_or ts i None) → b ≡ true → row_at c i ≡ null_val
masked_null c d ts i b h r w e k = masked_row c d ts i b h r w e ∙ ap (λ x. cond x null_val (row_at d i)) k

pub masked_own : (c d : Column) (ts : List (Option Bool)) (i : ℕ) (b : Bool) → AreMaskedOf c.ty d ts → zip_rows masked d.rows (vals_of ts) ≡ c.rows → i < length c.rows → b ≡ is_true (get_or ts i None) → b ≡ false → row_at c i ≡ row_at d i
masked_own c d ts i b h r w e k = masked_row c d ts i b h r w e ∙ ap (λ x. cond x null_val (row_at d i)) k

-- the rows within are never null
pub row_fits : (t : Ty) (vs : List Val) (i : ℕ) → rows_fit t vs ≡ true → i < length vs → val_fits (get_or vs i null_val) t ≡ true
row_fits t [] i e h = absurd (omega arith)
row_fits t (v ∷ vs) zero e h = (both_of (val_fits v t) (rows_fit t vs) e).0
row_fits t (v ∷ vs) (suc i) e h = row_fits t vs i (both_of (val_fits v t) (rows_fit t vs) e).1 (omega arith)

pub inner_never_null : (d : Column) (i : ℕ) → masks_apart d.ty ≡ true → rows_fit d.ty d.rows ≡ true → i < length d.rows → is_null3 (row_at d i) ≡ bool_val false
inner_never_null d i a f w = never_null d.ty (row_at d i) (apart_whole d.ty a) (row_fits d.ty d.rows i f w)

-- whether a row is valid
valid_step : (b : Bool) (v : Val) → is_null3 v ≡ bool_val false → is_null3 (cond b null_val v) ≡ bool_val (not (not b))
valid_step true v e = refl
valid_step false v e = e

pub masked_valid : (c d : Column) (ts : List (Option Bool)) (i : ℕ) (b : Bool) → AreMaskedOf c.ty d ts → zip_rows masked d.rows (vals_of ts) ≡ c.rows → i < length c.rows → b ≡ is_true (get_or ts i None) → is_null3 (row_at c i) ≡ bool_val (not (not b))
masked_valid c d ts i b h r w e =
    ap is_null3 (masked_row c d ts i b h r w e) ∙ valid_step b (row_at d i) (inner_never_null d i h.apart h.fit (omega (arith, masked_length c d ts h r)))

-- the rows are of the type
val_fits_nullable : (v : Val) (t : Ty) → val_fits v t ≡ true → val_fits v (with_nullability t Nullable) ≡ true
unfolding val_fits
val_fits_nullable null_val t e = ap is_nullable (nullability_with t Nullable)
val_fits_nullable (bool_val b) t e = bool_with t Nullable ∙ e
val_fits_nullable (int_val p i) (int_ty q m) e = e
val_fits_nullable (text_val s) t e = text_with t Nullable ∙ e
val_fits_nullable (list_val xs) (list_ty u m) e = e
val_fits_nullable (struct_val ms) (struct_ty fs m) e = e
val_fits_nullable _ _ e = absurd cc

masked_val_fits : (b : Bool) (v : Val) (t : Ty) → val_fits v t ≡ true → val_fits (cond b null_val v) (with_nullability t Nullable) ≡ true
unfolding val_fits
masked_val_fits true v t e = ap is_nullable (nullability_with t Nullable)
masked_val_fits false v t e = val_fits_nullable v t e

masked_rows_fit : (t : Ty) (vs : List Val) (ks : List Val) → rows_fit t vs ≡ true → rows_fit (with_nullability t Nullable) (zip_rows masked vs ks) ≡ true
masked_rows_fit t [] ks e = refl
masked_rows_fit t (v ∷ vs) [] e = refl
masked_rows_fit t (v ∷ vs) (k ∷ ks) e =
    let both = both_of (val_fits v t) (rows_fit t vs) e in
    of_both _ _ (masked_val_fits (is_true_val k) v t both.0) (masked_rows_fit t vs ks both.1)

pub masked_fit : (t : Ty) (d : Column) (ts : List (Option Bool)) → AreMaskedOf t d ts → rows_fit t (zip_rows masked d.rows (vals_of ts)) ≡ true
masked_fit t d ts h = ap (λ u. rows_fit u (zip_rows masked d.rows (vals_of ts))) h.whole ∙ masked_rows_fit d.ty d.rows (vals_of ts) h.fit

-- null, and what stands for the row within, stand for the row
pub null_stands : (c : Column) (i : ℕ) (x : ScalarValue) → is_nullable (nullability_of c.ty) ≡ true → row_at c i ≡ null_val → raw_view x ≡ raw_null → StandsAt i c x
unfolding fits valued
null_stands c i x n e r = (ap (λ y. fits y c.ty) r ∙ n, ap (λ y. valued y c.ty) r ∙ sym e)

pub inner_fits : (t : Ty) (d : Column) (ts : List (Option Bool)) (x : ScalarValue) → AreMaskedOf t d ts → fits (raw_view x) d.ty ≡ true → fits (raw_view x) t ≡ true
inner_fits t d ts x h f = ap (fits (raw_view x)) h.whole ∙ fits_nullable (raw_view x) d.ty f

pub inner_seen : (t : Ty) (d : Column) (ts : List (Option Bool)) (x : ScalarValue) → AreMaskedOf t d ts → seen t x ≡ seen d.ty x
inner_seen t d ts x h = ap (λ u. seen u x) h.whole ∙ valued_with_nullability (raw_view x) d.ty Nullable

pub inner_stands : (c d : Column) (ts : List (Option Bool)) (i : ℕ) (x : ScalarValue) → AreMaskedOf c.ty d ts → row_at c i ≡ row_at d i → StandsAt i d x → StandsAt i c x
inner_stands c d ts i x h e s = (inner_fits c.ty d ts x h s.0, inner_seen c.ty d ts x h ∙ s.1 ∙ sym e)

-- the parts of a column that is masked
pub are_masked : (t : Ty) (d e : Column) (ts : List (Option Bool)) → t ≡ with_nullability d.ty Nullable → e ≡ d → masks_apart d.ty ≡ true → length ts ≡ length d.rows → rows_fit d.ty d.rows ≡ true → AreMaskedOf t e ts
are_masked t d e ts w s a l f = subst (λ x. AreMaskedOf t x ts) (sym s) (record { whole = w; apart = a; lengths = l; fit = f })

-- where no truth is true the rows are those within
no_masks : (vs : List Val) (n : ℕ) → n ≡ length vs → zip_rows masked vs (vals_of (replicate n (Some false))) ≡ vs
no_masks [] n e = refl
no_masks (v ∷ vs) zero e = absurd (omega (arith, e))
no_masks (v ∷ vs) (suc n) e = ap (λ ws. v ∷ ws) (no_masks vs n (omega (arith, e)))

pub none_masked : (vs : List Val) (ts : List (Option Bool)) (n : ℕ) → n ≡ length vs → ts ≡ replicate n (Some false) → zip_rows masked vs (vals_of ts) ≡ vs
none_masked vs ts n e r = ap (λ us. zip_rows masked vs (vals_of us)) r ∙ no_masks vs n e

pub none_number : (ts : List (Option Bool)) (n m : ℕ) → ts ≡ replicate n (Some false) → n ≡ m → length ts ≡ m
none_number ts n m r e = ap length r ∙ length-replicate n (Some false) ∙ e

-- a row is null exactly where its truth is true
null_row : (b : Bool) (v : Val) → is_null3 v ≡ bool_val false → bool_val b ≡ is_null3 (cond b null_val v)
null_row true v e = refl
null_row false v e = sym e

null_rows : (t : Ty) (vs : List Val) (ts : List (Option Bool)) → is_nullable (nullability_of t) ≡ false → rows_fit t vs ≡ true → length ts ≡ length vs → map null_by ts ≡ map is_null3 (zip_rows masked vs (vals_of ts))
null_rows t [] [] n f e = refl
null_rows t [] (k ∷ ts) n f e = absurd (omega (arith, e))
null_rows t (v ∷ vs) [] n f e = absurd (omega (arith, e))
null_rows t (v ∷ vs) (k ∷ ts) n f e =
    let fit = both_of (val_fits v t) (rows_fit t vs) f in
    let here = null_row (is_true k) v (never_null t v n fit.0) ∙ ap (λ b. is_null3 (cond b null_val v)) (sym (is_true_of k)) in
    λ j. here j ∷ null_rows t vs ts n fit.1 (omega (arith, e)) j

pub masked_nulls : (c d : Column) (ts us : List (Option Bool)) → AreMaskedOf c.ty d ts → zip_rows masked d.rows (vals_of ts) ≡ c.rows → us ≡ ts → map null_by us ≡ map is_null3 c.rows
masked_nulls c d ts us h r e = ap (map null_by) e ∙ null_rows d.ty d.rows ts (apart_whole d.ty h.apart) h.fit h.lengths ∙ ap (map is_null3) r
