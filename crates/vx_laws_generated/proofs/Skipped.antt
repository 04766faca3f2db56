-- Which blocks the scan skips.
use Rattle.std.proofs.Common.{◌≡◌, ◌∙◌, ap, ap₂, refl, ℕ, ◌+◌, ◌/◌, ◌<◌, Bool, false, ◌||◌, pos, [], Option, Some, None, slice_get, arith}
use Rattle.std.specs.Ordering.{is_ge, is_lt, int_cmp}
use Rattle.vx_dtype.specs.declared.CompareOperator.TheVariants.{Lt, Gte}
use Rattle.vx_dtype.specs.declared.PType.TheVariants.{I32, I64}
use Rattle.vx_dtype.specs.declared.Stat.{Stat}
use Rattle.vx_dtype.specs.declared.Stat.TheVariants.{Min, Max}
use Rattle.vx_dtype.specs.Values.{int_val, Typed, valued, value_of}
use Rattle.vx_semantics.specs.Pruning.{known, known_compare, value_in, rules_out}
use Rattle.vx_laws_generated.specs.GeneratedTable.{GeneratedColumn, id_column, v_column, numbers_in, bound_value, bound_in, bounds_of, block_length, least_of, greatest_of, generated_zones, generated_filter}
use Rattle.vx_laws_generated.specs.GeneratedLaws.{is_below, reaches, is_skipped, GeneratedScansSkip}
use Rattle.vx_laws_generated.proofs.Ranges.{slice-of-range, filter-numbered}
use Rattle.vx_laws_generated.proofs.Answered.{not-below, below, true-of}

-- the bound of a block
bound-at : (rows : ℕ) (c : GeneratedColumn) (stat : Stat) (block : ℕ) → block < 0 + (rows + 63) / 64
    → slice_get (bounds_of rows c stat).values block ≡ Some (bound_in c stat rows block)
bound-at rows c stat block h =
    let here : 0 + block ≡ block = omega arith in
    slice-of-range (bound_in c stat rows) 0 ((rows + 63) / 64) block (omega arith) ∙ ap (λ (k : ℕ). Some (bound_in c stat rows k)) here

-- the greatest `id` is below the half, or the least `v` at least 50
by-bounds : (half : ℕ) (n m : Option ℕ)
    → (known_compare Lt (known (value_of (bound_value I64 n))) (Some (int_val I64 (pos half))) || known_compare Gte (known (value_of (bound_value I32 m))) (Some (int_val I32 (pos 50))))
    ≡ (is_below half n || reaches 50 m)
unfolding valued
by-bounds half None None = refl
by-bounds half None (Some m) = true-of (is_ge (int_cmp (pos m) (pos 50))) ∙ not-below m 50
by-bounds half (Some n) None = ap (λ (a : Bool). a || false) (true-of (is_lt (int_cmp (pos n) (pos half))) ∙ below n half)
by-bounds half (Some n) (Some m) =
    ap₂ (λ (a b : Bool). a || b) (true-of (is_lt (int_cmp (pos n) (pos half))) ∙ below n half) (true-of (is_ge (int_cmp (pos m) (pos 50))) ∙ not-below m 50)

skips : (rows block : ℕ) → block < 0 + (rows + 63) / 64 → rules_out (generated_zones rows) [] block (generated_filter rows) ≡ is_skipped rows block
unfolding rules_out valued
skips rows block h =
    ap₂
    (λ (s t : Option Typed).
    known_compare Lt (value_in s) (Some (int_val I64 (pos (rows / 2)))) || known_compare Gte (value_in t) (Some (int_val I32 (pos 50))))
    (bound-at rows id_column Max block h) (bound-at rows v_column Min block h)
    ∙ by-bounds (rows / 2) (greatest_of (numbers_in id_column rows block)) (least_of (numbers_in v_column rows block))

pub generated_scans_skip : GeneratedScansSkip
generated_scans_skip rows =
    filter-numbered (λ b. rules_out (generated_zones rows) [] b (generated_filter rows)) (is_skipped rows) (block_length rows) 0 ((rows + 63) / 64) (skips rows)
