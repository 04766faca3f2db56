-- What is written of a table into the files of a folder is opened, and holds the table.
use Rattle.std.proofs.Common.{◌≡◌, refl, ap, sym, ◌∙◌, subst, ℕ, true, List, [], ◌∷◌, ◌++◌, map, length, flat_map, Option, None, arith}
use Rattle.std.proofs.lemmas.Bool.{and_parts}
use Rattle.std.specs.List.{AllByRecursion}
use Rattle.vx_dtype.specs.declared.Nullability.TheVariants.{NonNullable}
use Rattle.vx_dtype.specs.Types.{Bytes, Fields, struct_ty}
use Rattle.vx_dtype.specs.TypeRules.{field_names}
use Rattle.vx_dtype.specs.Values.{Val}
use Rattle.vx_column.specs.Columns.{Column, zip_rows}
use Rattle.vx_semantics.specs.Tables.{Table, Zones}
use Rattle.vx_semantics.specs.Honest.{IsHonest}
use Rattle.vx_tables.specs.Blocks.{block_long, blocks_long, rows_of_columns, table_of_blocks, table_refusal}
use Rattle.vx_tables.proofs.FitLemmas.{table_fit}
use Rattle.vx_laws_stats.specs.BuiltStatistics.{built_zones}
use Rattle.vx_laws_stats.specs.BuiltLaws as built
use Rattle.vx_laws_stats.proofs.HonestBlocks.{honest}
use Rattle.vx_laws_file.specs.FileForms.{FileContent, content_of, most_rows}
use Rattle.vx_laws_file.specs.HeldTables.{held_table}
use Rattle.vx_laws_file.specs.Opening.{IsOpened}
use Rattle.vx_laws_file.proofs.WrittenLemmas.{written_is_opened, written_is_held}
use Rattle.vx_request.specs.Tables.{ToldTable}
use Rattle.vx_cutting.specs.CutLaws.{IsTable, all_rows}
use Rattle.vx_cutting.specs.Parting.{Parted, ArePartsOf, tables_in_parts}
use Rattle.vx_cutting.proofs.CutLists.{zip_append}
use Rattle.vx_cutting.proofs.PartLemmas.{parts_are_the_table}
use Rattle.vx_laws_shell.specs.ToldTables.{table_told}
use Rattle.vx_laws_shell.specs.Folders.{TableFile, AreOneFolder, built_file, table_of_files}
use Rattle.vx_laws_shell.specs.FolderContents.{AreOpened, file_held}
use Rattle.vx_laws_shell.proofs.FolderFiles.{built_files_are_one_folder, built_files_have_built_statistics, columns_first, files_are_joined, joined_files_are_honest}
use Rattle.vx_laws_writing.specs.Writing.{AreFilesOf, AreFilesOfParts, IsFileOf, blocks_kept, most_asked, rows_cut, told_part, zones_kept, zones_told}
use Rattle.vx_laws_writing.specs.WriteLaws.{Cuts}
use Rattle.vx_laws_writing.specs.FolderLaws.{HoldTheTable, AreWrittenWell, WhatIsInAFolderIsTheTable}
use Rattle.vx_laws_writing.proofs.TextTables.{tables_told_are_tables}
use Rattle.vx_laws_writing.proofs.WrittenTables.{all_fit, columns_kept, cut_cuts, distinct, kept_is_table, rows_kept, same_table}

-- what the file of a told table holds
abbrev content_told : ToldTable → FileContent
content_told told = content_of (zones_kept None told) told.blocks

-- the file of a table is opened, holds the table with the statistics that it has, and these don't lie
record IsFiled (told : ToldTable) (bytes : Bytes) : Type 0 where
  opened : IsOpened bytes (content_told told)
  held : file_held (content_told told) ≡ built_file (table_told told)
  honest_are : IsHonest (built_zones (table_told told)) (table_told told)

filed : (told : ToldTable) (bytes : Bytes) → IsTable told.zones told.blocks → IsFileOf None told bytes → IsFiled told bytes
filed told bytes own is =
    let kept = zones_kept None told in
    let table = table_told told in
    let held : held_table (content_told told) ≡ table =
    ap (table_of_blocks kept) (written_is_held kept told.blocks is.file) ∙ same_table told.zones told.blocks own.lengths in
    let fit = sym (all_fit (struct_ty told.zones.columns NonNullable) table.blocks) ∙ table_fit told.zones.columns told.zones.lengths told.blocks own.lengths own.types is.file.cells_fit in
    let lawful : built.IsTable table = record { names = distinct kept is.file.rules; fit = fit } in
    record {
      opened = subst (λ (bs : Bytes). IsOpened bs (content_told told)) (sym is.bytes_are) (written_is_opened kept told.blocks is.file);
      held = λ i. record { table = held i; zones = kept };
      honest_are = honest table lawful;
    }

-- and so are the files of parts
abbrev table_part : Parted → Table
table_part part = table_of_blocks part.zones part.blocks

abbrev contents_part : List Parted → List FileContent
contents_part parts = map (λ (part : Parted). content_told (told_part part)) parts

filed_all : (parts : List Parted) (files : List Bytes) → AllByRecursion (λ (part : Parted). IsTable part.zones part.blocks) parts → AreFilesOf (map told_part parts) files
    → AreOpened files (contents_part parts) × (map file_held (contents_part parts) ≡ map built_file (map table_part parts))
    × AllByRecursion (λ (file : TableFile). IsHonest file.zones file.table) (map built_file (map table_part parts))
filed_all [] [] whole h = (tt, refl, tt)
filed_all [] (bytes ∷ files) whole h = absurd h
filed_all (part ∷ parts) [] whole h = absurd h
filed_all (part ∷ parts) (bytes ∷ files) whole h =
    let one = filed (told_part part) bytes whole.0 h.0 in
    let rest = filed_all parts files whole.1 h.1 in
    ((one.opened, rest.0), (λ i. one.held i ∷ rest.1 i), (one.honest_are, rest.2))

-- parts of the same columns have those of the first
columns_same : (columns first : Fields) (parts : List Parted) → first ≡ columns → AllByRecursion (λ (part : Parted). part.zones.columns ≡ columns) parts
    → AllByRecursion (λ (table : Table). table.columns ≡ first) (map table_part parts)
columns_same columns first [] e h = tt
columns_same columns first (part ∷ parts) e h = (h.0 ∙ sym e, columns_same columns first parts e h.1)

-- the rows of the blocks of parts are those of the blocks together
pub same_number : (width : ℕ) (ns : List ℕ) (blocks : List (List Column)) → blocks_long width ns blocks ≡ true → length ns ≡ length blocks
same_number width [] [] h = refl
same_number width [] (block ∷ blocks) h = let no : ⊥ = cc in absurd no
same_number width (n ∷ ns) [] h = let no : ⊥ = cc in absurd no
same_number width (n ∷ ns) (block ∷ blocks) h = omega (arith, same_number width ns blocks (and_parts (block_long width n block) (blocks_long width ns blocks) h).1)

blocks_together : (columns : Fields) (parts : List Parted) → AllByRecursion (λ (part : Parted). part.zones.columns ≡ columns) parts
    → AllByRecursion (λ (part : Parted). IsTable part.zones part.blocks) parts
    → flat_map (λ (file : TableFile). file.table.blocks) (map built_file (map table_part parts))
    ≡ zip_rows (rows_of_columns columns) (flat_map (λ (part : Parted). part.zones.lengths) parts) (flat_map (λ (part : Parted). part.blocks) parts)
blocks_together columns [] same whole = refl
blocks_together columns (part ∷ parts) same whole =
    let rest = blocks_together columns parts same.1 whole.1 in
    (λ i. zip_rows (rows_of_columns (same.0 i)) part.zones.lengths part.blocks ++ rest i)
    ∙ sym (zip_append (rows_of_columns columns) part.zones.lengths (flat_map (λ (p : Parted). p.zones.lengths) parts) part.blocks (flat_map (λ (p : Parted). p.blocks) parts)
    (same_number (length (field_names part.zones.columns)) part.zones.lengths part.blocks whole.0.lengths))

-- so the files of the parts of a table hold the table
together : (told : ToldTable) (zones : Zones) (blocks : List (List Column)) (parts : List Parted) (files : List Bytes) → ArePartsOf zones blocks parts
    → AreFilesOf (map told_part parts) files → zones.columns ≡ told.zones.columns → all_rows (table_of_blocks zones blocks).blocks ≡ all_rows (table_told told).blocks
    → AreWrittenWell told files
together told zones blocks [] files are h columns rows = let none = are.some in absurd (omega (arith, none))
together told zones blocks (part ∷ parts) [] are h columns rows = absurd h
together told zones blocks (part ∷ parts) (bytes ∷ files) are h columns rows =
    let one = filed (told_part part) bytes are.tables.0 h.0 in
    let rest = filed_all parts files are.tables.1 h.1 in
    let first = table_part part in
    let tables = map table_part parts in
    let same = columns_same zones.columns first.columns parts are.columns.0 are.columns.1 in
    let alike = built_files_are_one_folder first tables same in
    let blocks_are = files_are_joined (built_file first) (map built_file tables) ∙ blocks_together zones.columns (part ∷ parts) are.columns are.tables
    ∙ (λ i. zip_rows (rows_of_columns zones.columns) (are.lengths i) (are.blocks_are i)) in
    let hold : HoldTheTable told (built_file first) (map built_file tables) = record {
      alike = alike;
      columns = columns_first (built_file first) (map built_file tables) ∙ are.columns.0 ∙ columns;
      rows = ap all_rows blocks_are ∙ rows;
      statistics = built_files_have_built_statistics first tables same;
      honest = joined_files_are_honest (built_file first) (map built_file tables) alike one.honest_are rest.2;
    } in
    let content = content_told (told_part part) in
    let back = sym one.held in
    let backs = sym rest.1 in
    record {
      first = content;
      contents = contents_part parts;
      opened = (one.opened, rest.0);
      hold = subst (λ (x : TableFile × List TableFile). HoldTheTable told x.0 x.1) (λ i. (back i, backs i)) hold;
    }

pub what_is_in_a_folder_is_the_table : WhatIsInAFolderIsTheTable
what_is_in_a_folder_is_the_table input ask told files tells cuts are =
    let rows = rows_cut ask in
    let zones = zones_told rows told in
    let blocks = blocks_kept rows told in
    let whole = tables_told_are_tables (most_asked ask.path) ask.form ask.rows input told tells in
    let cut = cut_cuts ask.form ask.rows cuts in
    let own = kept_is_table rows told cut whole in
    together told zones blocks (tables_in_parts most_rows zones blocks) files (parts_are_the_table most_rows zones blocks own) are.files_are (columns_kept rows told)
    (rows_kept rows told cut whole)
