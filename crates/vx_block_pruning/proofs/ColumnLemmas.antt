-- The columns of statistics over a run of blocks.
use Rattle.std.proofs.Common.{◌≡◌, ℕ, ◌+◌, ◌<◌, ◌≤◌, refl, ap, sym, ◌∙◌, subst, List, [], ◌∷◌, map, take, drop, length, Result, Ok, arith}
use Rattle.std.proofs.lemmas.List.{drop-map, take-map}
use Rattle.vx_dtype.specs.Types.{Ty}
use Rattle.vx_dtype.specs.Values.{Val, Typed, value_of}
use Rattle.vx_semantics.specs.Tables.{ZoneStat}
use Rattle.vx_passes.specs.PruningTables.{first_type}
use Rattle.vx_zones.specs.StatColumns.{typed_at, HoldsValuesOf}
use Rattle.vx_column.specs.declared.errors.ColumnError.{ColumnError}
use Rattle.vx_column.specs.Columns.{Column, column}
use Rattle.vx_column.specs.Answers.{AnswersColumn}
use Rattle.vx_block_pruning.specs.StatisticColumns.{column_type, column_of}

-- the type of the first value is that of the column
first-typed : (t d : Ty) (vs : List Val) (ss : List Typed) → map (typed_at t) vs ≡ ss → 0 < length ss → t ≡ first_type ss d
first-typed t d [] ss e h = absurd (omega (arith, h, ap length e))
first-typed t d (v ∷ vs) ss e h = ap (λ (xs : List Typed). first_type xs d) e

-- the rows of a column of a statistic's values in a run of blocks are the statistic's column there
pub run-is : (z : ZoneStat) (c made : Column) (first count : ℕ) → HoldsValuesOf z c → 0 < count → first + count ≤ length z.values
    → made ≡ column c.ty (take count (drop first c.rows)) → made ≡ column_of first count z
run-is z c made first count h some within e =
    let typed : c.ty ≡ column_type z = first-typed c.ty _ c.rows z.values h.typed (omega (arith, some, within)) in
    let rows : take count (drop first c.rows) ≡ map value_of (take count (drop first z.values)) =
    ap (λ (vs : List Val). take count (drop first vs)) h.rows ∙ ap (take count) (drop-map value_of first z.values) ∙ take-map value_of count (drop first z.values) in
    e ∙ (λ i. column (typed i) (rows i))

-- an answer that tells a column is this column, where it is one
pub made_is : (answer : Result Column ColumnError) (told made : Column) → AnswersColumn answer (Ok told) → answer ≡ Ok made → made ≡ told
made_is answer told made h e =
    let both : AnswersColumn (Ok made) (Ok told) = subst (λ (a : Result Column ColumnError). AnswersColumn a (Ok told)) e h in
    cc
