-- The statistics of the generated table are made.
use Rattle.std.proofs.Common.{◌≡◌, ◌∙◌, ap, refl, ℕ, ◌+◌, ◌/◌, ◌^◌, ◌<◌, List, map, length, None, Result, Ok, Err, IfErr, arith}
use Rattle.std.proofs.lemmas.List.{length-map}
use Rattle.std.proofs.lemmas.List.FromFn.{length-range_with_len}
use Rattle.vx_dtype.specs.Types.{Fields}
use Rattle.vx_semantics.specs.Tables.{ZoneStat, Zones}
use Rattle.vx_zones.specs.declared.errors.ZoneError.{ZoneError}
use Rattle.vx_zones.specs.declared.errors.ZoneError.TheVariants as errors
use Rattle.vx_zones.specs.Zoning.{broken_rule}
use Rattle.vx_zones.specs.ZoneAnswers.{MakesZones}
use Rattle.vx_laws_generated.specs.GeneratedTable.{block_length, block_numbers, generated_columns, generated_zones}
use Rattle.vx_laws_generated.proofs.Lawful.{generated_zones_are_lawful}

-- there are few blocks
pub lengths-few : (rows : ℕ) (lengths : List ℕ) → rows < 2 ^ 32 → lengths ≡ map (block_length rows) (block_numbers rows) → length lengths < 2 ^ 32
lengths-few rows lengths few e =
    let long : length lengths ≡ (rows + 63) / 64 =
    ap (λ (ns : List ℕ). length ns) e ∙ length-map (block_numbers rows) (block_length rows) ∙ length-range_with_len 0 ((rows + 63) / 64) in
    omega arith

-- zones of these parts
abbrev pub zones-of : Fields → List ℕ → List ZoneStat → Zones
zones-of columns lengths stats = record { columns = columns; lengths = lengths; stats = stats }

unrefused : (zones : Zones) (result : Result Zones ZoneError) → broken_rule zones ≡ None → MakesZones zones result → IfErr result (λ e. e ≡ errors.NoMemory)
unrefused zones (Ok made) lawful told = tt
unrefused zones (Err errors.NoMemory) lawful told = refl
unrefused zones (Err errors.DuplicateName) lawful told = let no : ⊥ = cc in absurd no
unrefused zones (Err errors.DeepType) lawful told = let no : ⊥ = cc in absurd no
unrefused zones (Err errors.BadStatPath) lawful told = let no : ⊥ = cc in absurd no
unrefused zones (Err errors.DuplicateStat) lawful told = let no : ⊥ = cc in absurd no
unrefused zones (Err errors.WrongStatCount) lawful told = let no : ⊥ = cc in absurd no
unrefused zones (Err errors.WrongStatType) lawful told = let no : ⊥ = cc in absurd no

-- the parts are those of the table
pub zones-told : (rows : ℕ) (columns : Fields) (lengths : List ℕ) (stats : List ZoneStat) → columns ≡ generated_columns
    → lengths ≡ map (block_length rows) (block_numbers rows) → stats ≡ (generated_zones rows).stats → zones-of columns lengths stats ≡ generated_zones rows
zones-told rows columns lengths stats e g h = λ i. zones-of (e i) (g i) (h i)

pub zones-made : (rows : ℕ) (columns : Fields) (lengths : List ℕ) (stats : List ZoneStat) (result : Result Zones ZoneError) → rows < 2 ^ 32
    → columns ≡ generated_columns → lengths ≡ map (block_length rows) (block_numbers rows) → stats ≡ (generated_zones rows).stats
    → MakesZones (zones-of columns lengths stats) result → IfErr result (λ e. e ≡ errors.NoMemory)
zones-made rows columns lengths stats result few e g h told =
    unrefused (zones-of columns lengths stats) result
    (ap broken_rule (zones-told rows columns lengths stats e g h) ∙ (generated_zones_are_lawful rows few).lawful) told
