-- Laws of what is written into the files of a folder.
use Rattle.std.specs.Prelude.{◌≡◌, ℕ, List, ◌∷◌, map, Ok}
use Rattle.vx_dtype.specs.Types.{Bytes}
use Rattle.vx_semantics.specs.Honest.{IsHonest}
use Rattle.vx_request.specs.Tables.{ToldTable}
use Rattle.vx_laws_stats.specs.BuiltStatistics.{built_zones}
use Rattle.vx_laws_file.specs.FileForms.{FileContent, most_rows}
use Rattle.vx_cutting.specs.CutLaws.{all_rows}
use Rattle.vx_laws_shell.specs.ToldTables.{table_told}
use Rattle.vx_laws_shell.specs.Folders.{TableFile, AreOneFolder, table_of_files, zones_of_files}
use Rattle.vx_laws_shell.specs.FolderContents.{AreOpened, file_held}
use Rattle.vx_laws_writing.specs.WriteWords.{WriteAsk}
use Rattle.vx_laws_writing.specs.Writing.{AreFilesOfParts, rows_cut, table_asked}
use Rattle.vx_laws_writing.specs.WriteLaws.{Cuts}

-- files are of one folder, and hold a table together: they have its columns, its rows in their order, and the statistics that these have, which don't lie
pub record HoldTheTable (told : ToldTable) (first : TableFile) (files : List TableFile) : Type 0 where
  pub alike : AreOneFolder first files
  pub columns : (table_of_files first files).columns ≡ told.zones.columns
  pub rows : all_rows (table_of_files first files).blocks ≡ all_rows (table_told told).blocks
  pub statistics : zones_of_files first files ≡ built_zones (table_of_files first files)
  pub honest : IsHonest (zones_of_files first files) (table_of_files first files)

-- what is written of a table into files: each is opened, and they hold the table together
pub record AreWrittenWell (told : ToldTable) (files : List Bytes) : Type 0 where
  pub first : FileContent
  pub contents : List FileContent
  pub opened : AreOpened files (first ∷ contents)
  pub hold : HoldTheTable told (file_held first) (map file_held contents)

abbrev pub WhatIsInAFolderIsTheTable : Type 0
WhatIsInAFolderIsTheTable =
    (input : Bytes) (ask : WriteAsk) (told : ToldTable) (files : List Bytes) → table_asked ask input ≡ Ok told → Cuts ask.rows
    → AreFilesOfParts most_rows (rows_cut ask) told files → AreWrittenWell told files
