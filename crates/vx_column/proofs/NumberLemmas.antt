-- Lists of numbers beside the rows of integer columns.
use Rattle.std.proofs.Common.{◌≡◌, refl, ap, subst, ◌∙◌, sym, ℕ, zero, suc, ◌<◌, Bool, true, false, not, ◌&&◌, cond, Option, Some, None, List, [], ◌∷◌, map, length, get_or, arith}
use Rattle.std.specs.Prelude.{ℤ, is_some}
use Rattle.std.specs.Simd.Lanes.{zip2}
use Rattle.std.proofs.Math.ListN.{replicate}
use Rattle.std.proofs.lemmas.List.{length-map}
use Rattle.vx_dtype.specs.Types.{Ty, int_ty}
use Rattle.vx_dtype.specs.declared.Nullability.{Nullability}
use Rattle.vx_dtype.specs.declared.Nullability.TheVariants.{Nullable}
use Rattle.vx_dtype.specs.declared.PType.{PType}
use Rattle.vx_dtype.specs.TypeRules.{is_int_ty, is_nullable, no_name_twice, nullability_of, with_nullability}
use Rattle.vx_dtype.specs.Values.{Raw, raw_null, raw_int, Val, null_val, bool_val, int_val, valued}
use Rattle.vx_dtype.specs.Fits.{fits, in_range, val_fits}
use Rattle.vx_dtype.specs.Logic.{is_null3}
use Rattle.vx_dtype.specs.RawViews.{raw_view}
use Rattle.vx_dtype.specs.declared.values.ScalarValue.{ScalarValue}
use Rattle.vx_words.specs.Truths.{vals_of, is_true, hidden_if, kept_items}
use Rattle.vx_numbers.specs.Numbers.{NumberList, number_list, fits_ptype, all_in_range}
use Rattle.vx_column.specs.RawParts.{raw_number}
use Rattle.vx_column.specs.Columns.{Column, column, row_at, rows_fit, raws_fit, raw_rows, values_fit, seen, seen_rows, zip_rows, kept_rows, masked}
use Rattle.vx_column.specs.Answers.{optional_raw}
use Rattle.vx_column.specs.Cells.{kept_column}
use Rattle.vx_column.specs.ColumnParts.{numbers_fit, AreNumbersOf}
use Rattle.vx_column.specs.PlainValues.{number_fits, number_val, numbers_vals}
use Rattle.vx_column.specs.StructColumns.{StandsAt}
use Rattle.vx_column.proofs.FitLemmas.{both_of, of_both, same_ptype_self}
use Rattle.vx_column.proofs.TruthLemmas.{is_true_of}

-- the number of a value stands for what the value does
raw_number_seen : (p : PType) (n : Nullability) (x : Raw) → fits x (int_ty p n) ≡ true → number_val p (raw_number x) ≡ valued x (int_ty p n)
unfolding fits valued
raw_number_seen p n raw_null e = refl
raw_number_seen p n (raw_int i) e = refl
raw_number_seen p n _ e = absurd cc

raw_number_fits : (p : PType) (n : Nullability) (x : Raw) → fits x (int_ty p n) ≡ true → number_fits p n (raw_number x) ≡ true
unfolding fits
raw_number_fits p n raw_null e = e
raw_number_fits p n (raw_int i) e = e
raw_number_fits p n _ e = absurd cc

pub raw_numbers_seen : (p : PType) (n : Nullability) (xs : List ScalarValue) → values_fit (int_ty p n) xs ≡ true → map (number_val p) (map (λ x. raw_number (raw_view x)) xs) ≡ seen_rows (int_ty p n) xs
raw_numbers_seen p n [] e = refl
raw_numbers_seen p n (x ∷ xs) e =
    let both = both_of (fits (raw_view x) (int_ty p n)) (values_fit (int_ty p n) xs) e in
    λ j. raw_number_seen p n (raw_view x) both.0 j ∷ raw_numbers_seen p n xs both.1 j

pub raw_numbers_fit : (p : PType) (n : Nullability) (xs : List ScalarValue) → values_fit (int_ty p n) xs ≡ true → numbers_fit p n (map (λ x. raw_number (raw_view x)) xs) ≡ true
raw_numbers_fit p n [] e = refl
raw_numbers_fit p n (x ∷ xs) e =
    let both = both_of (fits (raw_view x) (int_ty p n)) (values_fit (int_ty p n) xs) e in
    of_both _ _ (raw_number_fits p n (raw_view x) both.0) (raw_numbers_fit p n xs both.1)

-- numbers that an integer type of some nullability has are in its range
pub in_range_fit : (p : PType) (n : Nullability) (i : Option ℤ) → number_fits p n i ≡ true → fits_ptype p i ≡ true
in_range_fit p n None e = refl
in_range_fit p n (Some i) e = e

pub numbers_in_range : (p : PType) (n : Nullability) (ns : List (Option ℤ)) → numbers_fit p n ns ≡ true → all_in_range p ns ≡ true
numbers_in_range p n [] e = refl
numbers_in_range p n (i ∷ is) e =
    let both = both_of (number_fits p n i) (numbers_fit p n is) e in
    rw (in_range_fit p n i both.0) (numbers_in_range p n is both.1)

-- the list of numbers that a type has is one of the type
pub numbers_are : (t : Ty) (p : PType) (n : Nullability) (ns : List (Option ℤ)) (ms : NumberList) → t ≡ int_ty p n → ms ≡ number_list p ns → numbers_fit p n ns ≡ true → AreNumbersOf t ms
numbers_are t p n ns ms k e f =
    let own : nullability_of t ≡ n = ap nullability_of k in
    subst (AreNumbersOf t) (sym e) (record {
      kind = k ∙ ap (int_ty p) (sym own);
      fit = ap (λ m. numbers_fit p m ns) own ∙ f;
    })

-- the numbers of values stand for what the values do
pub raw_numbers_of : (t : Ty) (p : PType) (n : Nullability) (xs : List ScalarValue) (ms : NumberList) → t ≡ int_ty p n → ms ≡ number_list p (map (λ x. raw_number (raw_view x)) xs) → values_fit t xs ≡ true → numbers_vals ms ≡ seen_rows t xs
raw_numbers_of t p n xs ms k e f =
    let fit : values_fit (int_ty p n) xs ≡ true = ap (λ u. values_fit u xs) (sym k) ∙ f in
    ap numbers_vals e ∙ raw_numbers_seen p n xs fit ∙ ap (λ u. seen_rows u xs) (sym k)

-- as many values as numbers
pub length_numbers : (ns : NumberList) → length (numbers_vals ns) ≡ length ns.numbers
length_numbers ns = length-map ns.numbers (number_val ns.ptype)

-- the number at a place
pub number_at_place : (p : PType) (ns : List (Option ℤ)) (i : ℕ) → number_val p (get_or ns i None) ≡ get_or (map (number_val p) ns) i null_val
number_at_place p [] i = refl
number_at_place p (n ∷ ns) zero = refl
number_at_place p (n ∷ ns) (suc i) = number_at_place p ns i

number_fit_at : (p : PType) (n : Nullability) (ns : List (Option ℤ)) (i : ℕ) → numbers_fit p n ns ≡ true → i < length ns → number_fits p n (get_or ns i None) ≡ true
number_fit_at p n [] i e h = absurd (omega arith)
number_fit_at p n (m ∷ ns) zero e h = (both_of (number_fits p n m) (numbers_fit p n ns) e).0
number_fit_at p n (m ∷ ns) (suc i) e h = number_fit_at p n ns i (both_of (number_fits p n m) (numbers_fit p n ns) e).1 (omega arith)

pub number_row : (c : Column) (ns : NumberList) (i : ℕ) (x : Option ℤ) → numbers_vals ns ≡ c.rows → x ≡ get_or ns.numbers i None → number_val ns.ptype x ≡ row_at c i
number_row c ns i x r e = ap (number_val ns.ptype) e ∙ number_at_place ns.ptype ns.numbers i ∙ ap (λ vs. get_or vs i null_val) r

pub number_stands : (c : Column) (ns : NumberList) (i : ℕ) (t : Option ℤ) (x : ScalarValue) → AreNumbersOf c.ty ns → numbers_vals ns ≡ c.rows → t ≡ get_or ns.numbers i None → i < length c.rows → ((p : PType) (n : Nullability) → seen (int_ty p n) x ≡ number_val p t) → ((p : PType) (n : Nullability) → number_fits p n t ≡ true → fits (raw_view x) (int_ty p n) ≡ true) → StandsAt i c x
number_stands c ns i t x h r e w value fit =
    let within : i < length ns.numbers = omega (arith, ap length r, length_numbers ns) in
    let own : number_fits ns.ptype (nullability_of c.ty) t ≡ true = ap (number_fits ns.ptype (nullability_of c.ty)) e ∙ number_fit_at ns.ptype (nullability_of c.ty) ns.numbers i h.fit within in
    (ap (fits (raw_view x)) h.kind ∙ fit ns.ptype (nullability_of c.ty) own, ap (λ u. seen u x) h.kind ∙ value ns.ptype (nullability_of c.ty) ∙ number_row c ns i t r e)

-- numbers of a type stand for values of the type
number_val_fits : (p : PType) (n : Nullability) (i : Option ℤ) → number_fits p n i ≡ true → val_fits (number_val p i) (int_ty p n) ≡ true
unfolding val_fits
number_val_fits p n None e = e
number_val_fits p n (Some i) e = of_both _ _ (same_ptype_self p) e

numbers_fit_rows : (p : PType) (n : Nullability) (ns : List (Option ℤ)) → numbers_fit p n ns ≡ true → rows_fit (int_ty p n) (map (number_val p) ns) ≡ true
numbers_fit_rows p n [] e = refl
numbers_fit_rows p n (i ∷ is) e =
    let both = both_of (number_fits p n i) (numbers_fit p n is) e in
    of_both _ _ (number_val_fits p n i both.0) (numbers_fit_rows p n is both.1)

pub number_rows_fit : (t : Ty) (ns : NumberList) → AreNumbersOf t ns → rows_fit t (numbers_vals ns) ≡ true
number_rows_fit t ns h = ap (λ u. rows_fit u (numbers_vals ns)) h.kind ∙ numbers_fit_rows ns.ptype (nullability_of t) ns.numbers h.fit

-- a nullable type has each of them too
number_fits_nullable : (p : PType) (n : Nullability) (i : Option ℤ) → number_fits p n i ≡ true → number_fits p Nullable i ≡ true
number_fits_nullable p n None e = refl
number_fits_nullable p n (Some i) e = e

numbers_fit_nullable : (p : PType) (n : Nullability) (ns : List (Option ℤ)) → numbers_fit p n ns ≡ true → numbers_fit p Nullable ns ≡ true
numbers_fit_nullable p n [] e = refl
numbers_fit_nullable p n (i ∷ is) e =
    let both = both_of (number_fits p n i) (numbers_fit p n is) e in
    of_both _ _ (number_fits_nullable p n i both.0) (numbers_fit_nullable p n is both.1)

pub numbers_made_nullable : (t : Ty) (ns : NumberList) → AreNumbersOf t ns → AreNumbersOf (with_nullability t Nullable) ns
numbers_made_nullable t ns h =
    numbers_are (with_nullability t Nullable) ns.ptype Nullable ns.numbers ns (ap (λ u. with_nullability u Nullable) h.kind) refl
    (numbers_fit_nullable ns.ptype (nullability_of t) ns.numbers h.fit)

-- optional numbers as numbers and as values
pub int_raws_fit : (p : PType) (n : Nullability) (ns : List (Option ℤ)) → raws_fit (int_ty p n) (map (optional_raw raw_int) ns) ≡ numbers_fit p n ns
unfolding fits
int_raws_fit p n [] = refl
int_raws_fit p n (None ∷ ns) = λ j. is_nullable n && int_raws_fit p n ns j
int_raws_fit p n (Some i ∷ ns) = λ j. in_range p i && int_raws_fit p n ns j

pub int_raw_rows : (p : PType) (n : Nullability) (ns : List (Option ℤ)) → raw_rows (int_ty p n) (map (optional_raw raw_int) ns) ≡ map (number_val p) ns
unfolding valued
int_raw_rows p n [] = refl
int_raw_rows p n (None ∷ ns) = ap (λ vs. null_val ∷ vs) (int_raw_rows p n ns)
int_raw_rows p n (Some i ∷ ns) = ap (λ vs. int_val p i ∷ vs) (int_raw_rows p n ns)

-- an integer type has no names
pub int_names : (t : Ty) → is_int_ty t ≡ true → no_name_twice t ≡ true
unfolding no_name_twice
int_names (int_ty p n) e = refl
int_names _ e = absurd cc

-- the numbers that are kept
vals_cond : (p : PType) (b : Bool) (i : Option ℤ) (is : List (Option ℤ)) → map (number_val p) (cond b (i ∷ is) is) ≡ cond b (number_val p i ∷ map (number_val p) is) (map (number_val p) is)
vals_cond p true i is = refl
vals_cond p false i is = refl

kept_numbers_rows : (p : PType) (ns : List (Option ℤ)) (ks : List (Option Bool)) → map (number_val p) (kept_items ns ks) ≡ kept_rows (map (number_val p) ns) (vals_of ks)
kept_numbers_rows p [] ks = refl
kept_numbers_rows p (n ∷ ns) [] = refl
kept_numbers_rows p (n ∷ ns) (k ∷ ks) =
    vals_cond p (is_true k) n (kept_items ns ks) ∙ (λ j. cond (sym (is_true_of k) j) (number_val p n ∷ kept_numbers_rows p ns ks j) (kept_numbers_rows p ns ks j))

fit_cond : (p : PType) (n : Nullability) (b : Bool) (i : Option ℤ) (is : List (Option ℤ)) → number_fits p n i ≡ true → numbers_fit p n is ≡ true → numbers_fit p n (cond b (i ∷ is) is) ≡ true
fit_cond p n true i is e h = of_both _ _ e h
fit_cond p n false i is e h = h

kept_numbers_fit : (p : PType) (n : Nullability) (ns : List (Option ℤ)) (ks : List (Option Bool)) → numbers_fit p n ns ≡ true → numbers_fit p n (kept_items ns ks) ≡ true
kept_numbers_fit p n [] ks e = refl
kept_numbers_fit p n (i ∷ is) [] e = refl
kept_numbers_fit p n (i ∷ is) (k ∷ ks) e =
    let both = both_of (number_fits p n i) (numbers_fit p n is) e in
    fit_cond p n (is_true k) i (kept_items is ks) both.0 (kept_numbers_fit p n is ks both.1)

pub kept_numbers_of : (t d : Ty) (ns ms : NumberList) (ks : List (Option Bool)) → d ≡ t → AreNumbersOf t ns → ms ≡ number_list ns.ptype (kept_items ns.numbers ks) → AreNumbersOf d ms
kept_numbers_of t d ns ms ks e h k =
    numbers_are d ns.ptype (nullability_of t) (kept_items ns.numbers ks) ms (e ∙ h.kind) k (kept_numbers_fit ns.ptype (nullability_of t) ns.numbers ks h.fit)

pub kept_numbers_column : (c : Column) (d : Ty) (ns ms : NumberList) (ks : List (Option Bool)) → d ≡ c.ty → numbers_vals ns ≡ c.rows → ms ≡ number_list ns.ptype (kept_items ns.numbers ks) → column d (numbers_vals ms) ≡ kept_column (vals_of ks) c
kept_numbers_column c d ns ms ks e r k =
    let rows : numbers_vals ms ≡ kept_rows c.rows (vals_of ks) = ap numbers_vals k ∙ kept_numbers_rows ns.ptype ns.numbers ks ∙ ap (λ vs. kept_rows vs (vals_of ks)) r in
    λ j. column (e j) (rows j)

-- the numbers of which some are made null
vals_masked : (p : PType) (b : Bool) (i : Option ℤ) → number_val p (cond b None i) ≡ cond b null_val (number_val p i)
vals_masked p true i = refl
vals_masked p false i = refl

masked_numbers_rows : (p : PType) (ns : List (Option ℤ)) (ks : List (Option Bool)) → map (number_val p) (zip2 hidden_if ns ks) ≡ zip_rows masked (map (number_val p) ns) (vals_of ks)
masked_numbers_rows p [] ks = refl
masked_numbers_rows p (n ∷ ns) [] = refl
masked_numbers_rows p (n ∷ ns) (k ∷ ks) =
    λ j. (vals_masked p (is_true k) n ∙ (λ m. cond (sym (is_true_of k) m) null_val (number_val p n))) j ∷ masked_numbers_rows p ns ks j

masked_fits : (p : PType) (b : Bool) (i : Option ℤ) → number_fits p Nullable i ≡ true → number_fits p Nullable (cond b None i) ≡ true
masked_fits p true i e = refl
masked_fits p false i e = e

masked_numbers_fit : (p : PType) (ns : List (Option ℤ)) (ks : List (Option Bool)) → numbers_fit p Nullable ns ≡ true → numbers_fit p Nullable (zip2 hidden_if ns ks) ≡ true
masked_numbers_fit p [] ks e = refl
masked_numbers_fit p (i ∷ is) [] e = refl
masked_numbers_fit p (i ∷ is) (k ∷ ks) e =
    let both = both_of (number_fits p Nullable i) (numbers_fit p Nullable is) e in
    of_both _ _ (masked_fits p (is_true k) i both.0) (masked_numbers_fit p is ks both.1)

pub masked_numbers_of : (t d : Ty) (ns ms : NumberList) (ks : List (Option Bool)) → d ≡ t → nullability_of t ≡ Nullable → AreNumbersOf t ns → ms ≡ number_list ns.ptype (zip2 hidden_if ns.numbers ks) → AreNumbersOf d ms
masked_numbers_of t d ns ms ks e n h k =
    let fit : numbers_fit ns.ptype Nullable ns.numbers ≡ true = ap (λ m. numbers_fit ns.ptype m ns.numbers) (sym n) ∙ h.fit in
    numbers_are d ns.ptype Nullable (zip2 hidden_if ns.numbers ks) ms (e ∙ h.kind ∙ ap (int_ty ns.ptype) n) k (masked_numbers_fit ns.ptype ns.numbers ks fit)

pub masked_rows : (ns ms : NumberList) (ks : List (Option Bool)) (rows : List Val) → numbers_vals ns ≡ rows → ms ≡ number_list ns.ptype (zip2 hidden_if ns.numbers ks) → numbers_vals ms ≡ zip_rows masked rows (vals_of ks)
masked_rows ns ms ks rows r k = ap numbers_vals k ∙ masked_numbers_rows ns.ptype ns.numbers ks ∙ ap (λ vs. zip_rows masked vs (vals_of ks)) r

-- one number, many times
numbers_repeated : (p : PType) (n : ℕ) (i : Option ℤ) → map (number_val p) (replicate n i) ≡ replicate n (number_val p i)
numbers_repeated p zero i = refl
numbers_repeated p (suc n) i = ap (λ vs. number_val p i ∷ vs) (numbers_repeated p n i)

numbers_fit_repeated : (p : PType) (n : Nullability) (m : ℕ) (i : Option ℤ) → number_fits p n i ≡ true → numbers_fit p n (replicate m i) ≡ true
numbers_fit_repeated p n zero i e = refl
numbers_fit_repeated p n (suc m) i e = of_both _ _ e (numbers_fit_repeated p n m i e)

pub repeated_numbers : (p : PType) (n : ℕ) (i : Option ℤ) (v : Val) (rows : List Val) (ms : NumberList) → number_val p i ≡ v → replicate n v ≡ rows → ms ≡ number_list p (replicate n i) → numbers_vals ms ≡ rows
repeated_numbers p n i v rows ms e r k = ap numbers_vals k ∙ numbers_repeated p n i ∙ ap (replicate n) e ∙ r

pub repeated_numbers_fit : (t : Ty) (p : PType) (n : Nullability) (m : ℕ) (i : Option ℤ) (ms : NumberList) → t ≡ int_ty p n → number_fits p n i ≡ true → ms ≡ number_list p (replicate m i) → AreNumbersOf t ms
repeated_numbers_fit t p n m i ms k f e = numbers_are t p n (replicate m i) ms k e (numbers_fit_repeated p n m i f)

-- the integer type that a type is but for nullability
pub same_int_ty : (p q : PType) (n m : Nullability) → int_ty p n ≡ int_ty q m → p ≡ q
same_int_ty p q n m e = cc

-- a row is null where there is no number
is_null_number : (p : PType) (x : Option ℤ) → is_null3 (number_val p x) ≡ bool_val (not (is_some x))
is_null_number p None = refl
is_null_number p (Some i) = refl

pub number_valid : (c : Column) (ns : NumberList) (i : ℕ) (x : Option ℤ) (b : Bool) → numbers_vals ns ≡ c.rows → x ≡ get_or ns.numbers i None → b ≡ is_some x → is_null3 (row_at c i) ≡ bool_val (not b)
number_valid c ns i x b r e h = ap is_null3 (sym (number_row c ns i x r e)) ∙ is_null_number ns.ptype x ∙ ap (λ v. bool_val (not v)) (sym h)

-- as many numbers as rows
pub length_of_rows : (ns : NumberList) (rows : List Val) → numbers_vals ns ≡ rows → length ns.numbers ≡ length rows
length_of_rows ns rows e = sym (length_numbers ns) ∙ ap length e
