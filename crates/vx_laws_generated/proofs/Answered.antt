-- What the scan answers: the numbers of the rows of the second half in which `v` is below 50.
use Rattle.std.proofs.Common.{◌≡◌, ◌∙◌, sym, ap, ap₂, refl, ℕ, ◌/◌, ◌≤◌, ◌<◌, ⊎_elim, Bool, true, false, cond, not, ◌&&◌, nat_le, nat_lt, ltb, pos, List, [], ◌∷◌, ◌++◌, map, Option, Some, None, filter, flat_map, Less, Equal, Greater, lt-ltb, le-ltb}
use Rattle.std.specs.Ordering.{is_ge, is_lt, int_cmp}
use Rattle.std.proofs.lemmas.Bool.{cases_lt, lt-leb, le-leb}
use Rattle.std.proofs.lemmas.List.{map-append}
use Rattle.std.proofs.lemmas.List.Elements.{filter-append}
use Rattle.vx_dtype.specs.declared.CompareOperator.TheVariants.{Lt}
use Rattle.vx_dtype.specs.declared.PType.TheVariants.{I32, I64}
use Rattle.vx_dtype.specs.Values.{Val, null_val, bool_val, int_val, valued}
use Rattle.vx_dtype.specs.Logic.{is_true_val, and3}
use Rattle.vx_dtype.specs.Order.{compare3}
use Rattle.vx_semantics.specs.Meaning.{mean}
use Rattle.vx_semantics.specs.Tables.{row_type}
use Rattle.vx_semantics.specs.Scans.{matching_rows, block_rows}
use Rattle.vx_laws_scan.proofs.Keeping.{kept_rows_are_all}
use Rattle.vx_laws_generated.specs.GeneratedTable.{v_column, number_at, number_val, rows_in, block_numbers, generated_row, generated_block, generated_columns, generated_table, generated_zones, generated_filter, generated_projection}
use Rattle.vx_laws_generated.specs.GeneratedLaws.{is_below, is_answered, GeneratedScansAnswerIds}
use Rattle.vx_laws_generated.proofs.Blocks.{blocks_hold_all_rows}
use Rattle.vx_laws_generated.proofs.HonestBounds.{generated_zones_are_honest}

-- ---- comparisons of numbers

pub not-below : (n m : ℕ) → is_ge (int_cmp (pos n) (pos m)) ≡ nat_le m n
not-below n m = ⊎_elim (λ (h : n < m). by true (ltb m n) (lt-ltb n m h) ∙ sym (lt-leb m n h)) (λ (h : m ≤ n). by false (ltb m n) (le-ltb n m h) ∙ sym (le-leb m n h)) (cases_lt n m)
  where
    at : (a b : Bool) → is_ge (cond a Less (cond b Greater Equal)) ≡ not a
    at true b = refl
    at false true = refl
    at false false = refl

    by : (a b : Bool) → ltb n m ≡ a → is_ge (cond (ltb n m) Less (cond b Greater Equal)) ≡ not a
    by a b e = at (ltb n m) b ∙ ap not e

pub below : (n m : ℕ) → is_lt (int_cmp (pos n) (pos m)) ≡ nat_lt n m
below n m = by (ltb n m) (ltb m n)
  where
    by : (a b : Bool) → is_lt (cond a Less (cond b Greater Equal)) ≡ a
    by true b = refl
    by false true = refl
    by false false = refl

-- ---- the filter at a row

pub true-of : (a : Bool) → is_true_val (bool_val a) ≡ a
true-of true = refl
true-of false = refl

and-holds : (a b : Bool) → is_true_val (and3 (bool_val a) (bool_val b)) ≡ (a && b)
and-holds true true = refl
and-holds true false = refl
and-holds false true = refl
and-holds false false = refl

and-null : (a : Bool) → is_true_val (and3 (bool_val a) null_val) ≡ (a && false)
and-null true = refl
and-null false = refl

matches : (rows row : ℕ) → is_true_val (mean (row_type generated_columns) [] (generated_row row) (generated_filter rows)) ≡ is_answered rows row
unfolding mean valued
matches rows row = by (number_at v_column row)
  where
    by : (n : Option ℕ) → is_true_val (and3 (bool_val (is_ge (int_cmp (pos row) (pos (rows / 2))))) (compare3 Lt (number_val I32 n) (int_val I32 (pos 50))))
        ≡ (nat_le (rows / 2) row && is_below 50 n)
    by None = and-null (is_ge (int_cmp (pos row) (pos (rows / 2)))) ∙ ap (λ (a : Bool). a && false) (not-below row (rows / 2))
    by (Some n) =
        and-holds (is_ge (int_cmp (pos row) (pos (rows / 2)))) (is_lt (int_cmp (pos n) (pos 50)))
        ∙ ap₂ (λ (a b : Bool). a && b) (not-below row (rows / 2)) (below n 50)

-- the number of a row as a value
abbrev pub id_val : ℕ → Val
id_val row = int_val I64 (pos row)

means-id : (row : ℕ) → mean (row_type generated_columns) [] (generated_row row) generated_projection ≡ id_val row
unfolding mean
means-id row = refl

-- ---- the rows of a block, and of all blocks

rows-answered : (rows : ℕ) (is : List ℕ)
    → block_rows (row_type generated_columns) [] (generated_filter rows) generated_projection (map generated_row is) ≡ map id_val (filter (is_answered rows) is)
rows-answered rows [] = refl
rows-answered rows (i ∷ is) =
    by (is_true_val (mean (row_type generated_columns) [] (generated_row i) (generated_filter rows))) (is_answered rows i) (matches rows i) (rows-answered rows is)
  where
    by : (a b : Bool) → a ≡ b
        → map (λ (row : Val). mean (row_type generated_columns) [] row generated_projection) (matching_rows (row_type generated_columns) [] (generated_filter rows) (map generated_row is)) ≡ map id_val (filter (is_answered rows) is)
        → map (λ (row : Val). mean (row_type generated_columns) [] row generated_projection)
        (cond a (generated_row i ∷ matching_rows (row_type generated_columns) [] (generated_filter rows) (map generated_row is)) (matching_rows (row_type generated_columns) [] (generated_filter rows) (map generated_row is)))
        ≡ map id_val (cond b (i ∷ filter (is_answered rows) is) (filter (is_answered rows) is))
    by true true e h = ap₂ (λ (x : Val) (xs : List Val). x ∷ xs) (means-id i) h
    by false false e h = h
    by true false e h = let no : ⊥ = cc in absurd no
    by false true e h = let no : ⊥ = cc in absurd no

blocks-answered : (rows : ℕ) (bs : List ℕ)
    → flat_map (block_rows (row_type generated_columns) [] (generated_filter rows) generated_projection) (map (generated_block rows) bs)
    ≡ map id_val (filter (is_answered rows) (flat_map (rows_in rows) bs))
blocks-answered rows [] = refl
blocks-answered rows (b ∷ bs) =
    ap₂ (λ (xs ys : List Val). xs ++ ys) (rows-answered rows (rows_in rows b)) (blocks-answered rows bs)
    ∙ sym (map-append id_val (filter (is_answered rows) (rows_in rows b)) (filter (is_answered rows) (flat_map (rows_in rows) bs)))
    ∙ ap (map id_val) (sym (filter-append (is_answered rows) (rows_in rows b) (flat_map (rows_in rows) bs)))

pub generated_scans_answer_ids : GeneratedScansAnswerIds
generated_scans_answer_ids rows =
    let whole = kept_rows_are_all (generated_zones rows) (generated_table rows) [] (generated_filter rows) generated_projection (generated_zones_are_honest rows) in
    record {
      kept =
          whole ∙ blocks-answered rows (block_numbers rows) ∙ ap (λ (is : List ℕ). map id_val (filter (is_answered rows) is)) (blocks_hold_all_rows rows);
      whole = whole;
    }
