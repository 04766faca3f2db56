-- What is written of a table is opened, holds its rows, and has statistics that don't lie.
use Rattle.std.proofs.Common.{◌≡◌, refl, ap, sym, ◌∙◌, subst, ℕ, Bool, true, false, cond, not, ◌&&◌, List, [], ◌∷◌, length, Option, Some, None}
use Rattle.std.specs.List.{list_all}
use Rattle.vx_dtype.specs.declared.Nullability.TheVariants.{NonNullable}
use Rattle.vx_dtype.specs.Types.{Bytes, Ty, struct_ty}
use Rattle.vx_dtype.specs.TypeRules.{field_names, no_name_twice}
use Rattle.vx_dtype.specs.Fits.{val_fits}
use Rattle.vx_dtype.specs.Values.{Val}
use Rattle.vx_column.specs.Columns.{Column, rows_fit, zip_rows}
use Rattle.vx_semantics.specs.Tables.{Table, Zones, row_type}
use Rattle.vx_semantics.specs.Honest.{IsHonest}
use Rattle.vx_zones.specs.Zoning.{broken_rule}
use Rattle.vx_tables.specs.Blocks.{have_lengths, have_types, table_of_blocks, table_refusal, rows_of_columns}
use Rattle.vx_tables.proofs.BlockLemmas.{table_lengths}
use Rattle.vx_tables.proofs.FitLemmas.{table_fit}
use Rattle.vx_laws_scan.specs.Agreeing.{all_rows_fit}
use Rattle.vx_laws_stats.specs.BuiltStatistics.{built_zones}
use Rattle.vx_laws_stats.specs.BuiltLaws as built
use Rattle.vx_laws_stats.proofs.HonestBlocks.{honest}
use Rattle.vx_laws_file.specs.FileForms.{content_of}
use Rattle.vx_laws_file.specs.HeldTables.{held_table}
use Rattle.vx_laws_file.specs.Opening.{IsOpened}
use Rattle.vx_laws_file.proofs.WrittenLemmas.{written_is_opened, written_is_held}
use Rattle.vx_request.specs.Tables.{ToldTable}
use Rattle.vx_laws_csv.specs.CsvTables.{table_with}
use Rattle.vx_laws_shell.specs.ToldTables.{table_told}
use Rattle.vx_cutting.specs.CutLaws.{IsTable, all_rows}
use Rattle.vx_cutting.proofs.CutLaws.{cut_tables_are_tables, cutting_keeps_rows}
use Rattle.vx_laws_writing.specs.WriteWords.{InputForm, of_json, of_csv}
use Rattle.vx_laws_writing.specs.Writing.{IsFileOf, blocks_kept, cut_by, most_asked, rows_cut, told_csv, zones_told, zones_kept}
use Rattle.vx_laws_writing.specs.WriteLaws.{Cuts, IsWrittenWell, WhatIsWrittenIsTheTable, WhatIsWrittenIsTheText}
use Rattle.vx_laws_writing.proofs.TextTables.{tables_told_are_tables, text_rows, text_tables_are_tables}

-- blocks that aren't refused are a table
passed : {X : Type 0} (a : Bool) (x : X) (o : Option X) → cond (not a) (Some x) o ≡ None → (a ≡ true) × (o ≡ None)
passed true x o h = (refl, h)
passed false x o h = let no : ⊥ = cc in absurd no

pub is_table : (zones : Zones) (blocks : List (List Column)) → table_refusal zones blocks ≡ None → IsTable zones blocks
is_table zones blocks h =
    let first = passed (have_lengths zones blocks) _ _ h in
    let second = passed (have_types zones blocks) _ _ first.1 in
    record { lengths = first.0; types = second.0 }

pub no_refusal : (zones : Zones) (blocks : List (List Column)) → IsTable zones blocks → table_refusal zones blocks ≡ None
no_refusal zones blocks is = rw (is.lengths, is.types) refl

-- the blocks that are kept of a table are one with their zones
pub kept_is_table : (rows : Option ℕ) (told : ToldTable) → Cuts rows → table_refusal told.zones told.blocks ≡ None → IsTable (zones_told rows told) (blocks_kept rows told)
kept_is_table None told cuts h = is_table told.zones told.blocks h
kept_is_table (Some n) told cuts h = cut_tables_are_tables n told.zones told.blocks cuts (is_table told.zones told.blocks h)

-- their rows are those of the table
pub rows_kept : (rows : Option ℕ) (told : ToldTable) → Cuts rows → table_refusal told.zones told.blocks ≡ None
    → all_rows (table_of_blocks (zones_told rows told) (blocks_kept rows told)).blocks ≡ all_rows (table_told told).blocks
rows_kept None told cuts h = refl
rows_kept (Some n) told cuts h = cutting_keeps_rows n told.zones told.blocks cuts (is_table told.zones told.blocks h)

-- and so is the table with the zones that are built of it
pub same_table : (zones : Zones) (blocks : List (List Column)) → have_lengths zones blocks ≡ true → table_of_blocks (built_zones (table_of_blocks zones blocks)) blocks ≡ table_of_blocks zones blocks
same_table zones blocks h =
    let fs = zones.columns in
    let lengths = table_lengths fs (length (field_names fs)) zones.lengths blocks h in
    λ i. record { columns = fs; blocks = zip_rows (rows_of_columns fs) (lengths i) blocks }

each_fits : (t : Ty) (vs : List Val) → rows_fit t vs ≡ list_all (λ v. val_fits v t) vs
each_fits t [] = refl
each_fits t (v ∷ vs) = ap (λ b. val_fits v t && b) (each_fits t vs)

pub all_fit : (t : Ty) (blocks : List (List Val)) → list_all (rows_fit t) blocks ≡ all_rows_fit t blocks
all_fit t [] = refl
all_fit t (vs ∷ blocks) = λ i. each_fits t vs i && all_fit t blocks i

pub distinct : (z : Zones) → broken_rule z ≡ None → no_name_twice (row_type z.columns) ≡ true
unfolding broken_rule
distinct z h = (passed (no_name_twice (row_type z.columns)) _ _ h).0

pub columns_kept : (rows : Option ℕ) (told : ToldTable) → (zones_kept rows told).columns ≡ told.zones.columns
columns_kept None told = refl
columns_kept (Some n) told = refl

-- what is written of a table, whatever told it
pub written_well : (told : ToldTable) (rows : Option ℕ) (bytes : Bytes) → table_refusal told.zones told.blocks ≡ None → Cuts rows → IsFileOf rows told bytes → IsWrittenWell told bytes
written_well told rows bytes whole cuts is =
    let zones = zones_told rows told in
    let blocks = blocks_kept rows told in
    let table = table_of_blocks zones blocks in
    let kept = zones_kept rows told in
    let own = kept_is_table rows told cuts whole in
    let content = content_of kept blocks in
    let held : held_table content ≡ table = ap (table_of_blocks kept) (written_is_held kept blocks is.file) ∙ same_table zones blocks own.lengths in
    let fit = sym (all_fit (struct_ty zones.columns NonNullable) table.blocks) ∙ table_fit zones.columns zones.lengths blocks own.lengths own.types is.file.cells_fit in
    let lawful : built.IsTable table = record { names = distinct kept is.file.rules; fit = fit } in
    record {
      content = content;
      opened = subst (λ bs. IsOpened bs content) (sym is.bytes_are) (written_is_opened kept blocks is.file);
      columns = columns_kept rows told;
      rows = ap (λ (t : Table). all_rows t.blocks) held ∙ rows_kept rows told cuts whole;
      honest = subst (IsHonest kept) (sym held) (honest table lawful);
    }

-- what is asked of a form cuts into rows where the words do
pub cut_cuts : (form : InputForm) (rows : Option ℕ) → Cuts rows → Cuts (cut_by form rows)
cut_cuts of_json rows h = h
cut_cuts (of_csv null columns) rows h = tt

pub what_is_written_is_the_table : WhatIsWrittenIsTheTable
what_is_written_is_the_table input ask told bytes tells cuts is =
    written_well told (rows_cut ask) bytes (tables_told_are_tables (most_asked ask.path) ask.form ask.rows input told tells) (cut_cuts ask.form ask.rows cuts) is

-- what is written of a text of CSV
pub what_is_written_is_the_text : WhatIsWrittenIsTheText
what_is_written_is_the_text null size columns rows bytes some is =
    let told = told_csv (table_with null size columns rows) in
    let well = written_well told None bytes (text_tables_are_tables null size columns rows) tt is in
    record {
      content = well.content;
      opened = well.opened;
      columns_are = well.columns;
      rows_are = well.rows ∙ text_rows null size columns rows some;
    }
