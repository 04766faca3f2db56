-- The statistics of files so far, with those of one more file behind them.
use Rattle.std.proofs.Common.{◌≡◌, sym, ap, ◌∙◌, ℕ, List, ◌++◌, map, length}
use Rattle.std.specs.Prelude.{Result, Ok, Err, OnOk}
use Rattle.std.proofs.lemmas.List.{length-map}
use Rattle.vx_dtype.specs.Types.{Fields}
use Rattle.vx_semantics.specs.Tables.{ZoneStat, Zones}
use Rattle.vx_laws_stats.specs.BuiltLaws.{path_and_stat}
use Rattle.vx_laws_shell.specs.Folders.{stats_before, zones_before}

-- statistics of the same paths and kinds are as many
pub as_many : (zs os : List ZoneStat) → map path_and_stat os ≡ map path_and_stat zs → length zs ≡ length os
as_many zs os e = sym (length-map zs path_and_stat) ∙ ap length (sym e) ∙ length-map os path_and_stat

-- zones are those of their parts
abbrev pub zones_of : Fields → List ℕ → List ZoneStat → Zones
zones_of columns lengths stats = record { columns = columns; lengths = lengths; stats = stats }

pub zones_are : (zones other : Zones) (columns : Fields) (lengths : List ℕ) (stats : List ZoneStat) → columns ≡ zones.columns → lengths ≡ zones.lengths ++ other.lengths
    → stats ≡ stats_before zones.stats other.stats → zones_of columns lengths stats ≡ zones_before zones other
zones_are zones other columns lengths stats c l s = λ i. record { columns = c i; lengths = l i; stats = s i }

-- what follows of a fact that holds where something is answered
pub on_ok : {X E : Type 0} (answer : Result X E) (P Q : Type 0) → (P → Q) → OnOk answer P → OnOk answer Q
on_ok (Ok x) P Q so h = so h
on_ok (Err e) P Q so h = tt
