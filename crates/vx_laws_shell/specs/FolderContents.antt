-- What stands in a folder: its block files, in the order of their names, and what they hold together.
use Rattle.std.specs.Prelude.{◌≡◌, ◌-◌, ◌<◌, ◌≤◌, ◌^◌, nat_lt, Bool, cond, ◌&&◌, List, [], ◌∷◌, ◌++◌, map, length, drop, codes}
use Rattle.std.specs.Bool.{Decides}
use Rattle.std.specs.Cmp.Lexicographic.{slice_cmp}
use Rattle.std.specs.List.{AllByRecursion, list_any}
use Rattle.std.specs.List.Sorted.{IsStrictlySortedBy}
use Rattle.std.specs.Ordering.{nat_cmp}
use Rattle.std.specs.Str.{bytes_eq}
use Rattle.vx_dtype.specs.Types.{Bytes}
use Rattle.vx_scan.specs.Stores.{Read}
use Rattle.vx_laws_file.specs.FileForms.{FileContent}
use Rattle.vx_laws_file.specs.FileLaws.{AreBytes}
use Rattle.vx_laws_file.specs.HeldTables.{held_table}
use Rattle.vx_laws_file.specs.Opening.{IsOpened, FileRefusal, IsRefusedFile}
use Rattle.vx_laws_file.specs.Ranges.{IsDamaged}
use Rattle.vx_laws_shell.specs.Damage.{is_damaged_in}
use Rattle.vx_laws_shell.specs.Folders.{TableFile, zones_before, table_of_files, AreOneFolder}
use Rattle.vx_laws_shell.specs.Paths.{Kept, WhereKept, CannotOpen, Paths, WhereEachKept, WhereListed}

-- ---- the files of a folder

-- whether a name is one of a block file: it ends in `.vxb`
abbrev pub is_file_name : Bytes → Bool
is_file_name name = bytes_eq (drop (length name - 4) name) (codes ".vxb")

-- the block files among the things that stand in a folder: each once, in the ascending order of their names' bytes
pub record AreFileNames (listed names : List Bytes) : Type 0 where
  pub ascending : IsStrictlySortedBy (slice_cmp nat_cmp) names
  pub same : (name : Bytes) → list_any (bytes_eq name) names ≡ (is_file_name name && list_any (bytes_eq name) listed)

-- what holds of the names of the block files in the folder of a path, as far as what stands in it is known
abbrev pub WhereFiles : Paths → Bytes → (List Bytes → Type 0) → Type 0
WhereFiles paths path P = WhereListed (paths.listed path) (λ listed. (names : List Bytes) × AreFileNames listed names × P names)

-- ---- what files hold together

-- the blocks of a file, and behind them those of another one
abbrev pub content_before : FileContent → FileContent → FileContent
content_before content other = record { zones = zones_before content.zones other.zones; ranges = content.ranges ++ other.ranges }

-- what a first file and others hold as one
abbrev pub contents_joined : FileContent → List FileContent → FileContent
contents_joined first [] = first
contents_joined first (next ∷ contents) = content_before first (contents_joined next contents)

-- the table of a file, with its statistics
abbrev pub file_held : FileContent → TableFile
file_held content = record { table = held_table content; zones = content.zones }

-- the files are of one folder: they have the columns of the first, and statistics of the same paths and kinds
abbrev pub AreAlike : FileContent → List FileContent → Type 0
AreAlike first contents = AreOneFolder (file_held first) (map file_held contents)

-- so none, or some that are
abbrev pub AreAllAlike : List FileContent → Type 0
AreAllAlike [] = Unit {0}
AreAllAlike (first ∷ contents) = AreAlike first contents

-- the bytes of each are a file that holds this
abbrev pub AreOpened : List Bytes → List FileContent → Type 0
AreOpened [] [] = Unit {0}
AreOpened (bytes ∷ files) (content ∷ contents) = IsOpened bytes content × AreOpened files contents
AreOpened _ _ = ⊥

-- the files hold a table together: each is one, they are alike, and have fewer than 2 ^ 32 blocks together, as many as a block file may have
pub record HoldTogether (files : List Bytes) (first : FileContent) (contents : List FileContent) : Type 0 where
  pub opened : AreOpened files (first ∷ contents)
  pub alike : AreAlike first contents
  pub few : length (contents_joined first contents).zones.lengths < 2 ^ 32

-- ---- why files of a folder are no table

-- there is none; one can't be opened; one is no block file; one isn't like those before it; or they have too many blocks together
pub data FolderFault : Type 0 where
  no_file : FolderFault
  unopened_file : Bytes → FolderFault
  no_block_file : Bytes → FileRefusal → FolderFault
  unlike_file : Bytes → FolderFault
  too_many_blocks : FolderFault

-- what the paths of these names in a folder lead to
abbrev pub kept_in : (Bytes → Kept) → Bytes → List Bytes → List Kept
kept_in kept folder names = map (λ name. kept (folder ++ name)) names

-- files that can be opened, each of which is a block file, and which are alike
abbrev pub ArePassed : List Bytes → Type 0
ArePassed files = (contents : List FileContent) × AreOpened files contents × AreAllAlike contents

-- a file of these names is the first that hasn't passed, behind those of the front
abbrev pub IsFirstAt : (Bytes → Kept) → Bytes → List Bytes → Bytes → (List Bytes → Type 0) → Type 0
IsFirstAt kept folder names name P =
    (front : List Bytes) × (back : List Bytes) × (names ≡ front ++ name ∷ back) × WhereEachKept (kept_in kept folder front) ArePassed × P front

-- files that passed, and then one that isn't like the first of them
abbrev pub IsUnlikeThem : List Bytes → Type 0
IsUnlikeThem files =
    (first : FileContent) × (contents : List FileContent) × (last : FileContent) × AreOpened files (first ∷ contents ++ last ∷ [])
    × ¬ (AreAlike first (contents ++ last ∷ []))

-- files that are alike, and have too many blocks together
abbrev pub HaveTooManyBlocks : List Bytes → Type 0
HaveTooManyBlocks files =
    (first : FileContent) × (contents : List FileContent) × AreOpened files (first ∷ contents) × AreAlike first contents
    × (2 ^ 32 ≤ length (contents_joined first contents).zones.lengths)

-- why the files of these names are no table
abbrev pub IsFolderFault : (Bytes → Kept) → Bytes → List Bytes → FolderFault → Type 0
IsFolderFault kept folder names no_file = names ≡ []
IsFolderFault kept folder names (unopened_file name) = IsFirstAt kept folder names name (λ front. CannotOpen (kept (folder ++ name)))
IsFolderFault kept folder names (no_block_file name r) =
    IsFirstAt kept folder names name (λ front. WhereKept (kept (folder ++ name)) (λ bytes. IsRefusedFile bytes r))
IsFolderFault kept folder names (unlike_file name) =
    IsFirstAt kept folder names name (λ front. WhereEachKept (kept_in kept folder (front ++ name ∷ [])) IsUnlikeThem)
IsFolderFault kept folder names too_many_blocks = WhereEachKept (kept_in kept folder names) HaveTooManyBlocks

-- ---- laws

-- what files that are alike hold together is their tables as one, with their statistics as one
abbrev pub JoinedContentsAreFiles : Type 0
JoinedContentsAreFiles =
    (files : List Bytes) (first : FileContent) (contents : List FileContent) → AreOpened files (first ∷ contents) → AreAlike first contents
    → (held_table (contents_joined first contents) ≡ table_of_files (file_held first) (map file_held contents))

-- a read of the blocks of a first file is damaged where it is in that file; and one behind them where it is in the others, so many blocks before
abbrev pub JoinedDamageIsOfFiles : Type 0
JoinedDamageIsOfFiles =
    (bytes : Bytes) (first next : FileContent) (contents : List FileContent) (read : Read) → IsOpened bytes first → AreAlike first (next ∷ contents)
    → is_damaged_in (contents_joined first (next ∷ contents)) read
    ≡ cond (nat_lt read.0 (length first.ranges)) (is_damaged_in first read)
    (is_damaged_in (contents_joined next contents) (read.0 - length first.ranges, read.1))

-- and which are damaged is decided
abbrev pub JoinedDamageIsDecided : Type 0
JoinedDamageIsDecided =
    (files : List Bytes) (first : FileContent) (contents : List FileContent) (read : Read) → AllByRecursion AreBytes files
    → AreOpened files (first ∷ contents)
    → Decides (is_damaged_in (contents_joined first contents) read) (IsDamaged (contents_joined first contents) read.0 read.1)
