-- The rows of a column that are kept where another column is true, and so of structs of columns.
use Rattle.std.proofs.Common.{◌≡◌, refl, ap, ◌∙◌, sym, subst, ℕ, zero, suc, ◌+◌, ◌<◌, Bool, true, false, ◌==◌, None, cond, List, [], ◌∷◌, map, length, get_or, arith}
use Rattle.std.proofs.lemmas.Bool.Decides.{nat_tests}
use Rattle.std.specs.List.{range_with_len}
use Rattle.std.proofs.Math.ListN.{replicate}
use Rattle.std.proofs.lemmas.List.{get_or-map, length-map, length-replicate}
use Rattle.std.proofs.lemmas.List.FromFn.{fill_by_all}
use Rattle.vx_dtype.specs.Types.{Bytes, Ty}
use Rattle.vx_dtype.specs.TypeRules.{field_names, fields_of}
use Rattle.vx_dtype.specs.Fits.{val_fits}
use Rattle.vx_dtype.specs.RawViews.{raw_view}
use Rattle.vx_dtype.specs.declared.values.ScalarValue.{ScalarValue}
use Rattle.vx_dtype.specs.Values.{Val, null_val, struct_val, member, valued}
use Rattle.vx_dtype.specs.Logic.{is_true_val}
use Rattle.vx_column.specs.Columns.{Column, column, row_at, rows_fit, seen, seen_rows, kept_rows, true_count}
use Rattle.vx_column.specs.StructColumns.{column_types, all_have_rows, struct_row, row_members}
use Rattle.vx_column.specs.Cells.{structs_of, all_rows_fit, AreFieldsOf, kept_column}
use Rattle.vx_column.proofs.FitLemmas.{both_of, of_both}
use Rattle.vx_column.proofs.TrueCounts.{true_count-cons, length_kept}

-- of rows of one value as many are kept as are true
kept_repeated_step : (b : Bool) (v : Val) (m : ℕ) (ws : List Val) → ws ≡ replicate m v → cond b (v ∷ ws) ws ≡ replicate (cond b 1 0 + m) v
kept_repeated_step true v m ws e =
    let next : suc m ≡ 1 + m = omega arith in
    ap (λ zs. v ∷ zs) e ∙ ap (λ n. replicate n v) next
kept_repeated_step false v m ws e =
    let same : m ≡ 0 + m = omega arith in
    e ∙ ap (λ n. replicate n v) same

pub kept_repeated : (n : ℕ) (v : Val) (ks : List Val) → n ≡ length ks → kept_rows (replicate n v) ks ≡ replicate (true_count ks) v
kept_repeated zero v [] e = refl
kept_repeated zero v (k ∷ ks) e = absurd (omega (arith, e))
kept_repeated (suc n) v [] e = absurd (omega (arith, e))
kept_repeated (suc n) v (k ∷ ks) e = kept_repeated_step (is_true_val k) v (true_count ks) _ (kept_repeated n v ks (omega (arith, e))) ∙ ap (λ m. replicate m v) (sym (true_count-cons k ks))

-- the places, from one on, where values are true
abbrev pub kept_places : ℕ → List Val → List ℕ
kept_places j [] = []
kept_places j (k ∷ ks) = cond (is_true_val k) (j ∷ kept_places (j + 1) ks) (kept_places (j + 1) ks)

places_step : (b : Bool) (j n : ℕ) (ps : List ℕ) → length ps ≡ n → length (cond b (j ∷ ps) ps) ≡ cond b 1 0 + n
places_step true j n ps e = omega (arith, e)
places_step false j n ps e = omega (arith, e)

pub places_length : (j : ℕ) (ks : List Val) → length (kept_places j ks) ≡ true_count ks
places_length j [] = refl
places_length j (k ∷ ks) = places_step (is_true_val k) j (true_count ks) (kept_places (j + 1) ks) (places_length (j + 1) ks) ∙ sym (true_count-cons k ks)

kept_map_step : (f : ℕ → Val) (b : Bool) (j : ℕ) (ps : List ℕ) (ws : List Val) → ws ≡ map f ps → cond b (f j ∷ ws) ws ≡ map f (cond b (j ∷ ps) ps)
kept_map_step f true j ps ws e = ap (λ zs. f j ∷ zs) e
kept_map_step f false j ps ws e = e

-- of rows that are made by their places those at the places are kept
pub kept_map : (f : ℕ → Val) (j n : ℕ) (ks : List Val) → n ≡ length ks → kept_rows (map f (range_with_len j n)) ks ≡ map f (kept_places j ks)
kept_map f j zero [] e = refl
kept_map f j zero (k ∷ ks) e = absurd (omega (arith, e))
kept_map f j (suc n) [] e = absurd (omega (arith, e))
kept_map f j (suc n) (k ∷ ks) e = kept_map_step f (is_true_val k) j (kept_places (j + 1) ks) _ (kept_map f (j + 1) n ks (omega (arith, e)))

-- a column's rows by their places
pub rows_by_place : (c : Column) (n : ℕ) → length c.rows ≡ n → c.rows ≡ map (row_at c) (range_with_len 0 n)
rows_by_place c n e = fill_by_all (row_at c) c.rows n null_val e (λ k h. refl)

kept_by_place : (c : Column) (ks : List Val) → length c.rows ≡ length ks → kept_rows c.rows ks ≡ map (row_at c) (kept_places 0 ks)
kept_by_place c ks e = ap (λ vs. kept_rows vs ks) (rows_by_place c (length ks) e) ∙ kept_map (row_at c) 0 (length ks) ks refl

kept_row : (c : Column) (ks : List Val) (k : ℕ) → length c.rows ≡ length ks → k < length (kept_places 0 ks) → row_at (kept_column ks c) k ≡ row_at c (get_or (kept_places 0 ks) k 0)
kept_row c ks k e h = ap (λ vs. get_or vs k null_val) (kept_by_place c ks e) ∙ get_or-map (row_at c) (kept_places 0 ks) k 0 null_val h

same_length : (m n : ℕ) → (m == n) ≡ true → m ≡ n
same_length m n e = grind (arith, nat_tests, e)

length_same : (m n : ℕ) → m ≡ n → (m == n) ≡ true
length_same m n e = grind (arith, nat_tests, e)

-- the members of a row that is kept
kept_members : (ks : List Val) (k : ℕ) → k < length (kept_places 0 ks) → (fs : List Bytes) (cs : List Column) → all_have_rows (length ks) cs ≡ true → row_members fs cs (get_or (kept_places 0 ks) k 0) ≡ row_members fs (map (kept_column ks) cs) k
kept_members ks k h [] cs e = refl
kept_members ks k h (f ∷ fs) [] e = refl
kept_members ks k h (f ∷ fs) (c ∷ cs) e =
    let both = both_of (length c.rows == length ks) (all_have_rows (length ks) cs) e in
    λ j. member f (sym (kept_row c ks k (same_length (length c.rows) (length ks) both.0) h) j) (kept_members ks k h fs cs both.1 j)

kept_lengths : (ks : List Val) (cs : List Column) → all_have_rows (length ks) cs ≡ true → all_have_rows (true_count ks) (map (kept_column ks) cs) ≡ true
kept_lengths ks [] e = refl
kept_lengths ks (c ∷ cs) e =
    let both = both_of (length c.rows == length ks) (all_have_rows (length ks) cs) e in
    of_both _ _ (length_same _ _ (length_kept c.rows ks (same_length (length c.rows) (length ks) both.0))) (kept_lengths ks cs both.1)

kept_types : (ks : List Val) (cs : List Column) → column_types (map (kept_column ks) cs) ≡ column_types cs
kept_types ks [] = refl
kept_types ks (c ∷ cs) = ap (λ ts. c.ty ∷ ts) (kept_types ks cs)

kept_fit_step : (t : Ty) (b : Bool) (v : Val) (ws : List Val) → val_fits v t ≡ true → rows_fit t ws ≡ true → rows_fit t (cond b (v ∷ ws) ws) ≡ true
kept_fit_step t true v ws e h = of_both _ _ e h
kept_fit_step t false v ws e h = h

rows_fit_kept : (t : Ty) (vs ks : List Val) → rows_fit t vs ≡ true → rows_fit t (kept_rows vs ks) ≡ true
rows_fit_kept t [] ks e = refl
rows_fit_kept t (v ∷ vs) [] e = refl
rows_fit_kept t (v ∷ vs) (k ∷ ks) e =
    let both = both_of (val_fits v t) (rows_fit t vs) e in
    kept_fit_step t (is_true_val k) v (kept_rows vs ks) both.0 (rows_fit_kept t vs ks both.1)

all_fit_kept : (ks : List Val) (cs : List Column) → all_rows_fit cs ≡ true → all_rows_fit (map (kept_column ks) cs) ≡ true
all_fit_kept ks [] e = refl
all_fit_kept ks (c ∷ cs) e =
    let both = both_of (rows_fit c.ty c.rows) (all_rows_fit cs) e in
    of_both _ _ (rows_fit_kept c.ty c.rows ks both.0) (all_fit_kept ks cs both.1)

-- the columns of fields stay so where rows are kept
pub kept_fields : (t : Ty) (cs : List Column) (n : ℕ) (ks : List Val) → AreFieldsOf t cs n → n ≡ length ks → AreFieldsOf t (map (kept_column ks) cs) (true_count ks)
kept_fields t cs n ks h e = record {
  shape = h.shape;
  types = kept_types ks cs ∙ h.types;
  lengths = kept_lengths ks cs (ap (λ m. all_have_rows m cs) (sym e) ∙ h.lengths);
  fit = all_fit_kept ks cs h.fit;
}

kept_struct_row : (fs : List Bytes) (cs : List Column) (ks : List Val) → all_have_rows (length ks) cs ≡ true → (k : ℕ) → k < length (kept_places 0 ks) → get_or (map (struct_row fs cs None) (kept_places 0 ks)) k null_val ≡ struct_row fs (map (kept_column ks) cs) None k
kept_struct_row fs cs ks r k w = get_or-map (struct_row fs cs None) (kept_places 0 ks) k 0 null_val w ∙ ap struct_val (kept_members ks k w fs cs r)

-- and make the rows that are kept
pub kept_structs : (fs : List Bytes) (cs : List Column) (n : ℕ) (ks : List Val) → all_have_rows n cs ≡ true → n ≡ length ks → structs_of fs (map (kept_column ks) cs) (true_count ks) ≡ kept_rows (structs_of fs cs n) ks
kept_structs fs cs n ks h e =
    let rows : all_have_rows (length ks) cs ≡ true = ap (λ m. all_have_rows m cs) (sym e) ∙ h in
    let count = places_length 0 ks in
    let lengths : length (map (struct_row fs cs None) (kept_places 0 ks)) ≡ true_count ks = length-map (kept_places 0 ks) (struct_row fs cs None) ∙ count in
    let all = fill_by_all (struct_row fs (map (kept_column ks) cs) None) (map (struct_row fs cs None) (kept_places 0 ks)) (true_count ks) null_val lengths (λ k w. kept_struct_row fs cs ks rows k (omega (arith, count))) in
    sym all ∙ sym (kept_map (struct_row fs cs None) 0 n ks e)

-- what a loop over values has kept with one more that is kept, and with one that isn't
pub length_seen : (t : Ty) (xs : List ScalarValue) → length (seen_rows t xs) ≡ length xs
length_seen t [] = refl
length_seen t (x ∷ xs) = ap (λ n. suc n) (length_seen t xs)

-- the column of what was kept, by its parts
pub kept_constant : (c : Column) (ks : List Val) (d : Ty) (n m : ℕ) (x y : ScalarValue) → d ≡ c.ty → replicate n (seen c.ty x) ≡ c.rows → length c.rows ≡ length ks → m ≡ true_count ks → raw_view y ≡ raw_view x → column d (replicate m (seen d y)) ≡ kept_column ks c
kept_constant c ks d n m x y t r l e v =
    let lengths : n ≡ length ks = sym (length-replicate n (seen c.ty x)) ∙ ap length r ∙ l in
    let value : seen d y ≡ seen c.ty x = (λ j. valued (v j) (t j)) in
    let rows : replicate m (seen d y) ≡ kept_rows c.rows ks = (λ j. replicate (e j) (value j)) ∙ sym (kept_repeated n (seen c.ty x) ks lengths) ∙ ap (λ vs. kept_rows vs ks) r in
    λ j. column (t j) (rows j)

pub kept_values : (c : Column) (ks : List Val) (d s : Ty) (xs ms : List ScalarValue) → d ≡ c.ty → s ≡ c.ty → seen_rows c.ty xs ≡ c.rows → seen_rows s ms ≡ kept_rows (seen_rows s xs) ks → column d (seen_rows d ms) ≡ kept_column ks c
kept_values c ks d s xs ms t u r e =
    let rows : seen_rows d ms ≡ kept_rows c.rows ks = ap (λ w. seen_rows w ms) (t ∙ sym u) ∙ e ∙ (λ j. kept_rows (seen_rows (u j) xs) ks) ∙ ap (λ vs. kept_rows vs ks) r in
    λ j. column (t j) (rows j)

pub kept_structure : (c : Column) (ks : List Val) (d : Ty) (cs ds : List Column) (n m : ℕ) → d ≡ c.ty → AreFieldsOf c.ty cs n → structs_of (field_names (fields_of c.ty)) cs n ≡ c.rows → n ≡ length ks → m ≡ true_count ks → ds ≡ map (kept_column ks) cs → (AreFieldsOf d ds m) × (column d (structs_of (field_names (fields_of d)) ds m) ≡ kept_column ks c)
kept_structure c ks d cs ds n m t h r l e s =
    let rows : structs_of (field_names (fields_of d)) ds m ≡ kept_rows c.rows ks = (λ j. structs_of (field_names (fields_of (t j))) (s j) (e j)) ∙ kept_structs (field_names (fields_of c.ty)) cs n ks h.lengths l ∙ ap (λ vs. kept_rows vs ks) r in
    let fields : AreFieldsOf c.ty (map (kept_column ks) cs) (true_count ks) = kept_fields c.ty cs n ks h l in (
      subst (λ u. AreFieldsOf u ds m) (sym t) (subst (λ es. AreFieldsOf c.ty es m) (sym s) (subst (AreFieldsOf c.ty (map (kept_column ks) cs)) (sym e) fields)),
      λ j. column (t j) (rows j),
    )
