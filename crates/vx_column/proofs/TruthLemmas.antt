-- Lists of truths beside the rows of boolean columns.
use Rattle.std.proofs.Common.{◌≡◌, refl, ap, ◌∙◌, sym, ℕ, zero, suc, ◌+◌, ◌<◌, Bool, true, false, ◌&&◌, cond, Option, Some, None, List, [], ◌∷◌, map, length, get_or, arith}
use Rattle.std.specs.Prelude.{count_by}
use Rattle.std.specs.Simd.Lanes.{zip2}
use Rattle.std.proofs.Math.ListN.{replicate}
use Rattle.std.proofs.lemmas.List.{length-map}
use Rattle.std.proofs.lemmas.List.Sums.{sum_by-cons}
use Rattle.vx_dtype.specs.Types.{Ty, bool_ty}
use Rattle.vx_dtype.specs.declared.Nullability.{Nullability}
use Rattle.vx_dtype.specs.declared.Nullability.TheVariants.{Nullable}
use Rattle.vx_dtype.specs.TypeRules.{is_bool_ty, is_nullable, no_name_twice, nullability_of, with_nullability}
use Rattle.vx_dtype.specs.Values.{Raw, raw_null, raw_bool, Val, null_val, bool_val, valued}
use Rattle.vx_dtype.specs.Fits.{fits, val_fits}
use Rattle.vx_dtype.specs.Logic.{is_true_val}
use Rattle.vx_dtype.specs.RawViews.{raw_view}
use Rattle.vx_dtype.specs.declared.values.ScalarValue.{ScalarValue}
use Rattle.vx_words.specs.Words.{truth_val}
use Rattle.vx_words.specs.Truths.{vals_of, is_true, hidden_if, kept_items}
use Rattle.vx_column.specs.RawParts.{raw_truth, truth_fits}
use Rattle.vx_column.specs.Columns.{Column, column, row_at, rows_fit, raws_fit, raw_rows, values_fit, seen, seen_rows, zip_rows, kept_rows, masked, true_count}
use Rattle.vx_column.specs.Answers.{optional_raw}
use Rattle.vx_column.specs.Cells.{kept_column}
use Rattle.vx_column.specs.ColumnParts.{truths_fit, AreTruthsOf}
use Rattle.vx_column.specs.StructColumns.{StandsAt}
use Rattle.vx_column.proofs.FitLemmas.{both_of, of_both}
use Rattle.vx_column.proofs.TrueCounts.{true_count-cons}

-- a boolean type is that of its nullability
pub bool_is : (t : Ty) → is_bool_ty t ≡ true → t ≡ bool_ty (nullability_of t)
bool_is (bool_ty n) e = refl
bool_is _ e = absurd cc

-- the truth of a value stands for what the value does
pub truth_seen : (t : Ty) (x : Raw) → is_bool_ty t ≡ true → fits x t ≡ true → truth_val (raw_truth x) ≡ valued x t
unfolding fits valued
truth_seen (bool_ty n) raw_null k e = refl
truth_seen (bool_ty n) (raw_bool b) k e = refl
truth_seen _ _ k e = absurd cc

pub truth_fits_seen : (t : Ty) (x : Raw) → is_bool_ty t ≡ true → fits x t ≡ true → truth_fits (nullability_of t) (raw_truth x) ≡ true
unfolding fits
truth_fits_seen (bool_ty n) raw_null k e = e
truth_fits_seen (bool_ty n) (raw_bool b) k e = refl
truth_fits_seen _ _ k e = absurd cc

pub truths_seen : (t : Ty) (xs : List ScalarValue) → is_bool_ty t ≡ true → values_fit t xs ≡ true → vals_of (map (λ x. raw_truth (raw_view x)) xs) ≡ seen_rows t xs
truths_seen t [] k e = refl
truths_seen t (x ∷ xs) k e =
    let both = both_of (fits (raw_view x) t) (values_fit t xs) e in
    λ j. truth_seen t (raw_view x) k both.0 j ∷ truths_seen t xs k both.1 j

truths_fit_seen : (t : Ty) (xs : List ScalarValue) → is_bool_ty t ≡ true → values_fit t xs ≡ true → truths_fit (nullability_of t) (map (λ x. raw_truth (raw_view x)) xs) ≡ true
truths_fit_seen t [] k e = refl
truths_fit_seen t (x ∷ xs) k e =
    let both = both_of (fits (raw_view x) t) (values_fit t xs) e in
    of_both _ _ (truth_fits_seen t (raw_view x) k both.0) (truths_fit_seen t xs k both.1)

pub values_are_truths : (t : Ty) (xs : List ScalarValue) → is_bool_ty t ≡ true → values_fit t xs ≡ true → AreTruthsOf t (map (λ x. raw_truth (raw_view x)) xs)
values_are_truths t xs k e = record { kind = k; fit = truths_fit_seen t xs k e }

-- a rule goes along lists as it does along rows
pub zipped_rows : (f : Val → Val → Val) (xs ys : List Val) → zip2 f xs ys ≡ zip_rows f xs ys
zipped_rows f [] ys = refl
zipped_rows f (x ∷ xs) [] = refl
zipped_rows f (x ∷ xs) (y ∷ ys) = ap (λ zs. f x y ∷ zs) (zipped_rows f xs ys)

-- as many values as truths
pub length_vals : (ts : List (Option Bool)) → length (vals_of ts) ≡ length ts
length_vals ts = length-map ts truth_val

-- the truth at a place
pub val_at : (ts : List (Option Bool)) (i : ℕ) → truth_val (get_or ts i None) ≡ get_or (vals_of ts) i null_val
val_at [] i = refl
val_at (t ∷ ts) zero = refl
val_at (t ∷ ts) (suc i) = val_at ts i

pub fit_at : (n : Nullability) (ts : List (Option Bool)) (i : ℕ) → truths_fit n ts ≡ true → i < length ts → truth_fits n (get_or ts i None) ≡ true
fit_at n [] i e h = absurd (omega arith)
fit_at n (t ∷ ts) zero e h = (both_of (truth_fits n t) (truths_fit n ts) e).0
fit_at n (t ∷ ts) (suc i) e h = fit_at n ts i (both_of (truth_fits n t) (truths_fit n ts) e).1 (omega arith)

val_fits_truth : (n : Nullability) (t : Option Bool) → truth_fits n t ≡ true → val_fits (truth_val t) (bool_ty n) ≡ true
unfolding val_fits
val_fits_truth n None e = e
val_fits_truth n (Some b) e = refl

truths_fit_rows : (n : Nullability) (ts : List (Option Bool)) → truths_fit n ts ≡ true → rows_fit (bool_ty n) (vals_of ts) ≡ true
truths_fit_rows n [] e = refl
truths_fit_rows n (t ∷ ts) e =
    let both = both_of (truth_fits n t) (truths_fit n ts) e in
    of_both _ _ (val_fits_truth n t both.0) (truths_fit_rows n ts both.1)

pub truth_rows_fit : (t : Ty) (ts : List (Option Bool)) → AreTruthsOf t ts → rows_fit t (vals_of ts) ≡ true
truth_rows_fit t ts h = ap (λ u. rows_fit u (vals_of ts)) (bool_is t h.kind) ∙ truths_fit_rows (nullability_of t) ts h.fit

-- one truth, many times
pub vals_repeated : (m : ℕ) (t : Option Bool) → vals_of (replicate m t) ≡ replicate m (truth_val t)
vals_repeated zero t = refl
vals_repeated (suc m) t = ap (λ vs. truth_val t ∷ vs) (vals_repeated m t)

pub truths_fit_repeated : (n : Nullability) (m : ℕ) (t : Option Bool) → truth_fits n t ≡ true → truths_fit n (replicate m t) ≡ true
truths_fit_repeated n zero t e = refl
truths_fit_repeated n (suc m) t e = of_both _ _ e (truths_fit_repeated n m t e)

-- a nullable type has every truth
pub truths_fit_nullable : (ts : List (Option Bool)) → truths_fit Nullable ts ≡ true
truths_fit_nullable [] = refl
truths_fit_nullable (None ∷ ts) = truths_fit_nullable ts
truths_fit_nullable (Some b ∷ ts) = truths_fit_nullable ts

pub truths_made_nullable : (t : Ty) (ts : List (Option Bool)) → is_bool_ty t ≡ true → AreTruthsOf (with_nullability t Nullable) ts
truths_made_nullable (bool_ty n) ts e = record { kind = refl; fit = truths_fit_nullable ts }
truths_made_nullable _ ts e = absurd cc

-- optional booleans as truths and as values
pub bool_raws_fit : (n : Nullability) (ts : List (Option Bool)) → raws_fit (bool_ty n) (map (optional_raw raw_bool) ts) ≡ truths_fit n ts
unfolding fits
bool_raws_fit n [] = refl
bool_raws_fit n (None ∷ ts) = λ j. is_nullable n && bool_raws_fit n ts j
bool_raws_fit n (Some b ∷ ts) = bool_raws_fit n ts

pub bool_raw_rows : (n : Nullability) (ts : List (Option Bool)) → raw_rows (bool_ty n) (map (optional_raw raw_bool) ts) ≡ vals_of ts
unfolding valued
bool_raw_rows n [] = refl
bool_raw_rows n (None ∷ ts) = ap (λ vs. null_val ∷ vs) (bool_raw_rows n ts)
bool_raw_rows n (Some b ∷ ts) = ap (λ vs. bool_val b ∷ vs) (bool_raw_rows n ts)

-- the truths that are true
pub is_true_of : (t : Option Bool) → is_true_val (truth_val t) ≡ is_true t
is_true_of None = refl
is_true_of (Some true) = refl
is_true_of (Some false) = refl

pub is_true_at : (ts : List (Option Bool)) (i : ℕ) (t : Option Bool) → t ≡ get_or ts i None → is_true_val (get_or (vals_of ts) i null_val) ≡ is_true t
is_true_at ts i t e = ap is_true_val (sym (val_at ts i)) ∙ is_true_of (get_or ts i None) ∙ ap is_true (sym e)

pub true_count_of : (ts : List (Option Bool)) → count_by is_true ts ≡ true_count (vals_of ts)
true_count_of [] = refl
true_count_of (t ∷ ts) =
    sum_by-cons (λ u. cond (is_true u) 1 0) t ts ∙ (λ j. cond (sym (is_true_of t) j) 1 0 + true_count_of ts j) ∙ sym (true_count-cons (truth_val t) (vals_of ts))

vals_cond : (b : Bool) (t : Option Bool) (ts : List (Option Bool)) → vals_of (cond b (t ∷ ts) ts) ≡ cond b (truth_val t ∷ vals_of ts) (vals_of ts)
vals_cond true t ts = refl
vals_cond false t ts = refl

pub kept_truths_rows : (ts ks : List (Option Bool)) → vals_of (kept_items ts ks) ≡ kept_rows (vals_of ts) (vals_of ks)
kept_truths_rows [] ks = refl
kept_truths_rows (t ∷ ts) [] = refl
kept_truths_rows (t ∷ ts) (k ∷ ks) =
    vals_cond (is_true k) t (kept_items ts ks) ∙ (λ j. cond (sym (is_true_of k) j) (truth_val t ∷ kept_truths_rows ts ks j) (kept_truths_rows ts ks j))

fit_cond : (n : Nullability) (b : Bool) (t : Option Bool) (ts : List (Option Bool)) → truth_fits n t ≡ true → truths_fit n ts ≡ true → truths_fit n (cond b (t ∷ ts) ts) ≡ true
fit_cond n true t ts e h = of_both _ _ e h
fit_cond n false t ts e h = h

pub kept_truths_fit : (n : Nullability) (ts ks : List (Option Bool)) → truths_fit n ts ≡ true → truths_fit n (kept_items ts ks) ≡ true
kept_truths_fit n [] ks e = refl
kept_truths_fit n (t ∷ ts) [] e = refl
kept_truths_fit n (t ∷ ts) (k ∷ ks) e =
    let both = both_of (truth_fits n t) (truths_fit n ts) e in
    fit_cond n (is_true k) t (kept_items ts ks) both.0 (kept_truths_fit n ts ks both.1)

-- the truth at a row, and a value of it
pub truth_row : (c : Column) (ts : List (Option Bool)) (i : ℕ) (t : Option Bool) → vals_of ts ≡ c.rows → t ≡ get_or ts i None → truth_val t ≡ row_at c i
truth_row c ts i t r e = ap truth_val e ∙ val_at ts i ∙ ap (λ vs. get_or vs i null_val) r

pub truth_stands : (c : Column) (ts : List (Option Bool)) (i : ℕ) (t : Option Bool) (x : ScalarValue) → AreTruthsOf c.ty ts → vals_of ts ≡ c.rows → t ≡ get_or ts i None → i < length c.rows → ((n : Nullability) → seen (bool_ty n) x ≡ truth_val t) → ((n : Nullability) → truth_fits n t ≡ true → fits (raw_view x) (bool_ty n) ≡ true) → StandsAt i c x
truth_stands c ts i t x h r e w value fit =
    let is = bool_is c.ty h.kind in
    let within : i < length ts = omega (arith, ap length r, length_vals ts) in
    let own : truth_fits (nullability_of c.ty) t ≡ true = ap (truth_fits (nullability_of c.ty)) e ∙ fit_at (nullability_of c.ty) ts i h.fit within in
    (ap (fits (raw_view x)) is ∙ fit (nullability_of c.ty) own, ap (λ u. seen u x) is ∙ value (nullability_of c.ty) ∙ truth_row c ts i t r e)

-- a boolean type has no names
pub bool_names : (t : Ty) → is_bool_ty t ≡ true → no_name_twice t ≡ true
unfolding no_name_twice
bool_names (bool_ty n) e = refl
bool_names _ e = absurd cc

-- a list of truths that is made of a constant
pub repeated_rows : (c : Column) (n : ℕ) (x : ScalarValue) (t : Option Bool) (ts : List (Option Bool)) → is_bool_ty c.ty ≡ true → fits (raw_view x) c.ty ≡ true → replicate n (seen c.ty x) ≡ c.rows → t ≡ raw_truth (raw_view x) → ts ≡ replicate n t → vals_of ts ≡ c.rows
repeated_rows c n x t ts k f r e h =
    ap vals_of h ∙ vals_repeated n t ∙ ap (λ u. replicate n (truth_val u)) e ∙ ap (replicate n) (truth_seen c.ty (raw_view x) k f) ∙ r

pub repeated_fit : (c : Column) (n : ℕ) (x : ScalarValue) (t : Option Bool) (ts : List (Option Bool)) → is_bool_ty c.ty ≡ true → fits (raw_view x) c.ty ≡ true → t ≡ raw_truth (raw_view x) → ts ≡ replicate n t → truths_fit (nullability_of c.ty) ts ≡ true
repeated_fit c n x t ts k f e h =
    ap (truths_fit (nullability_of c.ty)) (h ∙ ap (replicate n) e) ∙ truths_fit_repeated (nullability_of c.ty) n (raw_truth (raw_view x)) (truth_fits_seen c.ty (raw_view x) k f)

-- how often a constant is true
count_repeated : (b : Bool) (n : ℕ) (v : Val) → is_true_val v ≡ b → true_count (replicate n v) ≡ cond b n 0
count_repeated true zero v e = refl
count_repeated false zero v e = refl
count_repeated true (suc n) v e = true_count-cons v (replicate n v) ∙ (λ j. cond (e j) 1 0 + count_repeated true n v e j) ∙ omega arith
count_repeated false (suc n) v e = true_count-cons v (replicate n v) ∙ (λ j. cond (e j) 1 0 + count_repeated false n v e j)

pub constant_count : (c : Column) (n : ℕ) (x : ScalarValue) (t : Option Bool) (b : Bool) → is_bool_ty c.ty ≡ true → fits (raw_view x) c.ty ≡ true → replicate n (seen c.ty x) ≡ c.rows → t ≡ raw_truth (raw_view x) → b ≡ is_true t → cond b n 0 ≡ true_count c.rows
constant_count c n x t b k f r e h =
    let here : is_true_val (seen c.ty x) ≡ b = ap is_true_val (sym (truth_seen c.ty (raw_view x) k f)) ∙ is_true_of (raw_truth (raw_view x)) ∙ ap is_true (sym e) ∙ sym h in
    sym (count_repeated b n (seen c.ty x) here) ∙ ap true_count r

-- truths that are kept are those of the type, and of the column of what is kept
pub kept_truths_of : (t d : Ty) (ts ks us : List (Option Bool)) → d ≡ t → AreTruthsOf t ts → us ≡ kept_items ts ks → AreTruthsOf d us
kept_truths_of t d ts ks us e h k = record {
  kind = ap is_bool_ty e ∙ h.kind;
  fit = (λ j. truths_fit (nullability_of (e j)) (k j)) ∙ kept_truths_fit (nullability_of t) ts ks h.fit;
}

pub kept_truths_column : (c : Column) (d : Ty) (ts ks us : List (Option Bool)) → d ≡ c.ty → vals_of ts ≡ c.rows → us ≡ kept_items ts ks → column d (vals_of us) ≡ kept_column (vals_of ks) c
kept_truths_column c d ts ks us e r k =
    let rows : vals_of us ≡ kept_rows c.rows (vals_of ks) = ap vals_of k ∙ kept_truths_rows ts ks ∙ ap (λ vs. kept_rows vs (vals_of ks)) r in
    λ j. column (e j) (rows j)

-- truths of which some are hidden stand for values of which some are made null
hidden_row : (b : Bool) (t : Option Bool) → truth_val (cond b None t) ≡ cond b null_val (truth_val t)
hidden_row true t = refl
hidden_row false t = refl

hidden_rows : (ts ks : List (Option Bool)) → vals_of (zip2 hidden_if ts ks) ≡ zip_rows masked (vals_of ts) (vals_of ks)
hidden_rows [] ks = refl
hidden_rows (t ∷ ts) [] = refl
hidden_rows (t ∷ ts) (k ∷ ks) = λ j. (hidden_row (is_true k) t ∙ (λ m. cond (sym (is_true_of k) m) null_val (truth_val t))) j ∷ hidden_rows ts ks j

pub masked_truths_rows : (ts ks us : List (Option Bool)) (rows : List Val) → vals_of ts ≡ rows → us ≡ zip2 hidden_if ts ks → vals_of us ≡ zip_rows masked rows (vals_of ks)
masked_truths_rows ts ks us rows r e = ap vals_of e ∙ hidden_rows ts ks ∙ ap (λ vs. zip_rows masked vs (vals_of ks)) r

pub nullable_truths_of : (t d : Ty) (us : List (Option Bool)) → d ≡ t → nullability_of t ≡ Nullable → is_bool_ty t ≡ true → AreTruthsOf d us
nullable_truths_of t d us e n k = record {
  kind = ap is_bool_ty e ∙ k;
  fit = ap (λ u. truths_fit (nullability_of u) us) e ∙ ap (λ m. truths_fit m us) n ∙ truths_fit_nullable us;
}
