-- The block files of a folder as one table, by their headers.
use Rattle.std.specs.Prelude.{◌≡◌, ℕ, ◌≤◌, List, [], ◌∷◌, map, length, Some}
use Rattle.std.specs.List.{slice_get}
use Rattle.std.specs.String.{string_bytes}
use Rattle.vx_dtype.specs.Types.{Bytes}
use Rattle.vx_semantics.specs.Tables.{Zones}
use Rattle.vx_laws_file.specs.FileForms.{FileContent}
use Rattle.vx_laws_shell.specs.Paths.{Paths, WhereEachKept}
use Rattle.vx_laws_shell.specs.FolderContents.{WhereFiles, kept_in, contents_joined, HoldTogether}
use Rattle.vx_folder.specs.FolderParts.{HaveBegins}
use Rattle.vx_folder.specs.declared.tables.FolderTable.{FolderTable}

-- the names of a folder's block files, how many blocks stand before those of each, and their statistics as one
pub record FilesTable : Type 0 where
  pub names : List Bytes
  pub begins : List ℕ
  pub zones : Zones

abbrev pub table_view : FolderTable → FilesTable
table_view table = record { names = map string_bytes table.names.items; begins = table.begins.items; zones = table.zones }

-- numbers that ascend from one to another
abbrev pub Ascend : ℕ → List ℕ → ℕ → Type 0
Ascend low [] high = low ≤ high
Ascend low (n ∷ ns) high = (low ≤ n) × Ascend n ns high

-- the blocks of each file have their place among those of all, those of the first before all others
pub record HasPlaces (table : FilesTable) : Type 0 where
  pub front : slice_get table.begins 0 ≡ Some 0
  pub paired : length table.begins ≡ length table.names
  pub ascend : Ascend 0 table.begins (length table.zones.lengths)

-- files hold this together: the statistics are theirs as one, and the blocks of each begin there
pub record HoldTable (table : FilesTable) (files : List Bytes) : Type 0 where
  pub first : FileContent
  pub contents : List FileContent
  pub together : HoldTogether files first contents
  pub zones_are : (contents_joined first contents).zones ≡ table.zones
  pub placed : HaveBegins (first ∷ contents) 0 table.begins

-- the table is that of the block files in the folder of a path, where it is known what stands there: it has their names, and what they hold together where it
-- is known what each of them is
abbrev pub IsTableOfFolder : Paths → Bytes → FilesTable → Type 0
IsTableOfFolder paths path table =
    WhereFiles paths path (λ names. (table.names ≡ names) × WhereEachKept (kept_in paths.kept path names) (HoldTable table))
