-- A part that is cut in two: two parts, whose scans give one behind the other what its scan gives.
use Rattle.std.proofs.Common.{◌≡◌, refl, ap, sym, ◌∙◌, ℕ, ◌+◌, ◌-◌, ◌≤◌, List, [], ◌∷◌, ◌++◌, map, length, take, drop, arith}
use Rattle.std.proofs.lemmas.List.{take-take, drop-drop}
use Rattle.vx_dtype.specs.Types.{Fields}
use Rattle.vx_dtype.specs.Values.{Val}
use Rattle.vx_semantics.specs.Tables.{Table, ZoneStat}
use Rattle.vx_semantics.specs.Scans.{kept_rows_of}
use Rattle.vx_scan.proofs.CutLemmas.{scans_of_runs}
use Rattle.vx_block_parts.specs.Parts.{zones_between, table_between}
use Rattle.vx_block_parts.specs.PartLaws.{PartsAreCut, PartsJoin}
use Rattle.vx_block_parts.proofs.SliceLemmas.{slice_between, length_between}
use Rattle.vx_block_parts.proofs.RuleLemmas.{cut_stat, zones_of}

module _ {X : Type 0} where
  items_before : (a m b : ℕ) (xs : List X) → a ≤ m → m ≤ b → take (m - a) (drop a (take b xs)) ≡ drop a (take m xs)
  items_before a m b xs h k = slice_between a m (take b xs) h ∙ ap (drop a) (take-take m b xs k)

  items_behind : (a m b : ℕ) (xs : List X) → a ≤ m → drop (m - a) (drop a (take b xs)) ≡ drop m (take b xs)
  items_behind a m b xs h =
      let whole : a + (m - a) ≡ m = omega (arith, h) in drop-drop (m - a) a (take b xs) ∙ ap (λ (n : ℕ). drop n (take b xs)) whole

stats_before : (a m b : ℕ) (zs : List ZoneStat) → a ≤ m → m ≤ b
    → map (cut_stat (take (m - a))) (map (cut_stat (drop a)) (map (cut_stat (take b)) zs)) ≡ map (cut_stat (drop a)) (map (cut_stat (take m)) zs)
stats_before a m b [] h k = refl
stats_before a m b (z ∷ zs) h k =
    let values = items_before a m b z.values h k in let rest = stats_before a m b zs h k in λ i. cut_stat (λ _. values i) z ∷ rest i

stats_behind : (a m b : ℕ) (zs : List ZoneStat) → a ≤ m
    → map (cut_stat (drop (m - a))) (map (cut_stat (drop a)) (map (cut_stat (take b)) zs)) ≡ map (cut_stat (drop m)) (map (cut_stat (take b)) zs)
stats_behind a m b [] h = refl
stats_behind a m b (z ∷ zs) h =
    let values = items_behind a m b z.values h in let rest = stats_behind a m b zs h in λ i. cut_stat (λ _. values i) z ∷ rest i

-- a table of these parts
abbrev table_of : Fields → List (List Val) → Table
table_of columns blocks = record { columns = columns; blocks = blocks }

pub parts_cut : PartsAreCut
parts_cut from middle up_to zones table h k = record {
  zones_before = λ i. zones_of zones.columns (items_before from middle up_to zones.lengths h k i) (stats_before from middle up_to zones.stats h k i);
  zones_behind = λ i. zones_of zones.columns (items_behind from middle up_to zones.lengths h i) (stats_behind from middle up_to zones.stats h i);
  table_before = λ i. table_of table.columns (items_before from middle up_to table.blocks h k i);
  table_behind = λ i. table_of table.columns (items_behind from middle up_to table.blocks h i);
}

pub parts_join : PartsJoin
parts_join table zones slots f p from middle up_to many h k within =
    let cut = parts_cut from middle up_to zones table h k in
    let blocks : length (drop from (take up_to table.blocks)) ≡ up_to - from = length_between from up_to table.blocks (omega (arith, many, within)) in
    let lengths : length (drop from (take up_to zones.lengths)) ≡ up_to - from = length_between from up_to zones.lengths within in
    let there : middle - from ≤ length (drop from (take up_to zones.lengths)) = omega (arith, lengths, h, k) in
    (scans_of_runs (table_between from up_to table) (zones_between from up_to zones) slots f p (middle - from) (blocks ∙ sym lengths) there).kept_rows
    ∙ (λ i. kept_rows_of (cut.table_before i) (cut.zones_before i) slots f p ++ kept_rows_of (cut.table_behind i) (cut.zones_behind i) slots f p)
