-- Blocks in two runs, one behind the other: the rows of a scan of them are those of a scan of the first run, and then those of a scan of the second.
use Rattle.std.proofs.Common.{◌≡◌, refl, ap, sym, ◌∙◌, subst, ℕ, ◌+◌, ◌-◌, ◌≤◌, List, [], ◌∷◌, ◌++◌, map, length, take, drop, arith}
use Rattle.std.proofs.lemmas.List.{length-drop, length-take-le, take-take, drop-drop, drop-take}
use Rattle.vx_dtype.specs.Values.{Typed}
use Rattle.vx_expr.specs.Trees.{Tree}
use Rattle.vx_semantics.specs.Tables.{Table, Zones, ZoneStat}
use Rattle.vx_semantics.specs.Scans.{kept_rows_of}
use Rattle.vx_scan.specs.Cutting.{first_zones, later_zones, first_blocks, later_blocks}
use Rattle.vx_scan.proofs.CutLemmas.{scans_of_runs}
use Rattle.vx_laws_shell.specs.Parts.{PartsJoin}

-- ---- items from one place up to another, in two runs

within_length : {X : Type 0} (from up_to : ℕ) (xs : List X) → up_to ≤ length xs → length (drop from (take up_to xs)) ≡ up_to - from
within_length from up_to xs h = length-drop from (take up_to xs) ∙ ap (λ (n : ℕ). n - from) (length-take-le up_to xs h)

front_within : {X : Type 0} (from middle up_to : ℕ) (xs : List X) → from ≤ middle → middle ≤ up_to
    → take (middle - from) (drop from (take up_to xs)) ≡ drop from (take middle xs)
front_within {X} from middle up_to xs h k =
    let all : from + (middle - from) ≡ middle = omega (arith, h) in
    sym (drop-take from (middle - from) (take up_to xs))
    ∙ ap (λ (n : ℕ). drop from (take n (take up_to xs))) all
    ∙ ap (λ (ys : List X). drop from ys) (take-take middle up_to xs k)

back_within : {X : Type 0} (from middle up_to : ℕ) (xs : List X) → from ≤ middle → drop (middle - from) (drop from (take up_to xs)) ≡ drop middle (take up_to xs)
back_within from middle up_to xs h =
    let all : from + (middle - from) ≡ middle = omega (arith, h) in
    drop-drop (middle - from) from (take up_to xs) ∙ ap (λ (n : ℕ). drop n (take up_to xs)) all

-- ---- statistics

abbrev cut_stat : (List Typed → List Typed) → ZoneStat → ZoneStat
cut_stat cut z = record { path = z.path; stat = z.stat; values = cut z.values }

front_stats : (from middle up_to : ℕ) (zs : List ZoneStat) → from ≤ middle → middle ≤ up_to
    → map (cut_stat (take (middle - from))) (map (cut_stat (drop from)) (map (cut_stat (take up_to)) zs)) ≡ map (cut_stat (drop from)) (map (cut_stat (take middle)) zs)
front_stats from middle up_to [] h k = refl
front_stats from middle up_to (z ∷ zs) h k =
    let own = front_within from middle up_to z.values h k in
    let rest = front_stats from middle up_to zs h k in
    λ i. record { path = z.path; stat = z.stat; values = own i } ∷ rest i

back_stats : (from middle up_to : ℕ) (zs : List ZoneStat) → from ≤ middle
    → map (cut_stat (drop (middle - from))) (map (cut_stat (drop from)) (map (cut_stat (take up_to)) zs)) ≡ map (cut_stat (drop middle)) (map (cut_stat (take up_to)) zs)
back_stats from middle up_to [] h = refl
back_stats from middle up_to (z ∷ zs) h =
    let own = back_within from middle up_to z.values h in
    let rest = back_stats from middle up_to zs h in
    λ i. record { path = z.path; stat = z.stat; values = own i } ∷ rest i

-- ---- tables and zones

front_table : (table : Table) (from middle up_to : ℕ) → from ≤ middle → middle ≤ up_to
    → first_blocks (middle - from) (later_blocks from (first_blocks up_to table)) ≡ later_blocks from (first_blocks middle table)
front_table table from middle up_to h k =
    let blocks = front_within from middle up_to table.blocks h k in
    λ i. record { columns = table.columns; blocks = blocks i }

back_table : (table : Table) (from middle up_to : ℕ) → from ≤ middle
    → later_blocks (middle - from) (later_blocks from (first_blocks up_to table)) ≡ later_blocks middle (first_blocks up_to table)
back_table table from middle up_to h =
    let blocks = back_within from middle up_to table.blocks h in
    λ i. record { columns = table.columns; blocks = blocks i }

front_zones : (zones : Zones) (from middle up_to : ℕ) → from ≤ middle → middle ≤ up_to
    → first_zones (middle - from) (later_zones from (first_zones up_to zones)) ≡ later_zones from (first_zones middle zones)
front_zones zones from middle up_to h k =
    let lengths = front_within from middle up_to zones.lengths h k in
    let stats = front_stats from middle up_to zones.stats h k in
    λ i. record { columns = zones.columns; lengths = lengths i; stats = stats i }

back_zones : (zones : Zones) (from middle up_to : ℕ) → from ≤ middle
    → later_zones (middle - from) (later_zones from (first_zones up_to zones)) ≡ later_zones middle (first_zones up_to zones)
back_zones zones from middle up_to h =
    let lengths = back_within from middle up_to zones.lengths h in
    let stats = back_stats from middle up_to zones.stats h in
    λ i. record { columns = zones.columns; lengths = lengths i; stats = stats i }

-- ---- rows

rows_joined : (table : Table) (zones : Zones) (f p : Tree) (from middle up_to : ℕ) → length table.blocks ≡ length zones.lengths
    → from ≤ middle → middle ≤ up_to → up_to ≤ length zones.lengths
    → kept_rows_of (later_blocks from (first_blocks up_to table)) (later_zones from (first_zones up_to zones)) [] f p
    ≡ kept_rows_of (later_blocks from (first_blocks middle table)) (later_zones from (first_zones middle zones)) [] f p
    ++ kept_rows_of (later_blocks middle (first_blocks up_to table)) (later_zones middle (first_zones up_to zones)) [] f p
rows_joined table zones f p from middle up_to same later earlier within =
    let part = later_blocks from (first_blocks up_to table) in
    let known = later_zones from (first_zones up_to zones) in
    let counted : up_to ≤ length table.blocks = omega (arith, same, within) in
    let blocks = within_length from up_to table.blocks counted in
    let lengths = within_length from up_to zones.lengths within in
    let inside = subst (λ (n : ℕ). middle - from ≤ n) (sym lengths) (omega (arith, earlier)) in
    let one_table = front_table table from middle up_to later earlier in
    let one_zones = front_zones zones from middle up_to later earlier in
    let other_table = back_table table from middle up_to later in
    let other_zones = back_zones zones from middle up_to later in
    (scans_of_runs part known [] f p (middle - from) (blocks ∙ sym lengths) inside).kept_rows
    ∙ (λ i. kept_rows_of (one_table i) (one_zones i) [] f p ++ kept_rows_of (other_table i) (other_zones i) [] f p)

pub parts_join : PartsJoin
parts_join table zones f p range middle same later earlier within = rows_joined table zones f p range.from middle range.up_to same later earlier within
