-- No phase of the scan breaks: neither expression asks a sum, a difference or a cast.
use Rattle.std.proofs.Common.{◌≡◌, refl, ℕ, Bool, true, false, cond, List, [], ◌∷◌, ◌++◌, flat_map}
use Rattle.std.specs.List.{list_any}
use Rattle.std.proofs.lemmas.Bool.{or_from, or_parts}
use Rattle.vx_dtype.specs.Values.{Val}
use Rattle.vx_semantics.specs.Asked.{asked, some_asked_breaks}
use Rattle.vx_semantics.specs.Tables.{row_type}
use Rattle.vx_semantics.specs.Scans.{Phase, has_rows, reads_in, further_columns, matching_rows, block_phases, phase_breaks, kept_of}
use Rattle.vx_laws_generated.specs.GeneratedTable.{generated_columns, generated_table, generated_zones, generated_filter, generated_projection}
use Rattle.vx_laws_generated.specs.GeneratedLaws.{NoGeneratedPhaseBreaks}

filter-quiet : (rows : ℕ) (row : Val) → some_asked_breaks (row_type generated_columns) [] row (generated_filter rows) ≡ false
unfolding asked
filter-quiet rows row = refl

projection-quiet : (row : Val) → some_asked_breaks (row_type generated_columns) [] row generated_projection ≡ false
unfolding asked
projection-quiet row = refl

-- a test that passes at no item
none-passes : {X : Type 0} (p : X → Bool) → ((x : X) → p x ≡ false) → (xs : List X) → list_any p xs ≡ false
none-passes p h [] = refl
none-passes p h (x ∷ xs) = or_from (p x) (list_any p xs) (h x) (none-passes p h xs)

-- and so in lists one after the other
none-behind : {X : Type 0} (p : X → Bool) (xs ys : List X) → list_any p xs ≡ false → list_any p ys ≡ false → list_any p (xs ++ ys) ≡ false
none-behind p [] ys h k = k
none-behind p (x ∷ xs) ys h k =
    let parts = or_parts (p x) (list_any p xs) h in
    or_from (p x) (list_any p (xs ++ ys)) parts.0 (none-behind p xs ys parts.1 k)

block-quiet : (rows : ℕ) (b : ℕ × List Val)
    → list_any (phase_breaks (row_type generated_columns) []) (block_phases (row_type generated_columns) [] (generated_filter rows) generated_projection b) ≡ false
block-quiet rows b =
    or_from _ _ (none-passes (λ (row : Val). some_asked_breaks (row_type generated_columns) [] row (generated_filter rows)) (filter-quiet rows) b.1)
    (by (has_rows (matching_rows (row_type generated_columns) [] (generated_filter rows) b.1))
    record {
      expression = generated_projection;
      reads = reads_in b.0 (further_columns (row_type generated_columns) (generated_filter rows) generated_projection);
      rows = matching_rows (row_type generated_columns) [] (generated_filter rows) b.1;
    } (none-passes (λ (row : Val). some_asked_breaks (row_type generated_columns) [] row generated_projection) projection-quiet (matching_rows (row_type generated_columns) [] (generated_filter rows) b.1)))
  where
    by : (s : Bool) (phase : Phase) → phase_breaks (row_type generated_columns) [] phase ≡ false
        → list_any (phase_breaks (row_type generated_columns) []) (cond s (phase ∷ []) []) ≡ false
    by true phase h = or_from _ _ h refl
    by false phase h = refl

blocks-quiet : (rows : ℕ) (bs : List (ℕ × List Val))
    → list_any (phase_breaks (row_type generated_columns) []) (flat_map (block_phases (row_type generated_columns) [] (generated_filter rows) generated_projection) bs) ≡ false
blocks-quiet rows [] = refl
blocks-quiet rows (b ∷ bs) =
    none-behind (phase_breaks (row_type generated_columns) []) (block_phases (row_type generated_columns) [] (generated_filter rows) generated_projection b)
    (flat_map (block_phases (row_type generated_columns) [] (generated_filter rows) generated_projection) bs) (block-quiet rows b) (blocks-quiet rows bs)

pub no_generated_phase_breaks : NoGeneratedPhaseBreaks
no_generated_phase_breaks rows = blocks-quiet rows (kept_of (generated_table rows) (generated_zones rows) [] (generated_filter rows))
