-- Laws of what is listed.
use Rattle.std.specs.Prelude.{◌≡◌, ℕ, List, map, Option, Some}
use Rattle.vx_dtype.specs.Types.{Bytes}
use Rattle.vx_semantics.specs.Tables.{Zones}
use Rattle.vx_request.specs.Tables.{ToldTable}
use Rattle.vx_laws_file.specs.FileForms.{FileContent, header_of}
use Rattle.vx_laws_file.specs.Opening.{IsOpened, FileRefusal}
use Rattle.vx_laws_writing.specs.Writing.{IsFileOf, zones_kept}
use Rattle.vx_laws_shell.specs.Origins.{block_file, folder}
use Rattle.vx_laws_shell.specs.Paths.{Paths, holds, lists}
use Rattle.vx_laws_shell.specs.FolderContents.{AreFileNames, kept_in}
use Rattle.vx_laws_shell.specs.Running.{End}
use Rattle.vx_laws_listing.specs.ListingWords.{listing_asked_of}
use Rattle.vx_laws_listing.specs.Listing.{misfiled, listed, AreZonesOfFile, IsPathEnd, IsListingEnd}

-- where the bytes of the file are known, what is written to an output that tells its bytes is known
abbrev pub OneListing : Type 0
OneListing =
    (words : List Bytes) (paths : Paths) (path bytes old : Bytes) (before x y : End) → listing_asked_of words ≡ Some (block_file path)
    → paths.kept path ≡ holds bytes → before.bytes ≡ Some old → IsListingEnd words paths before x listed → IsListingEnd words paths before y listed
    → x.bytes ≡ y.bytes

-- and so it is of a folder where it is known what stands there, and the bytes of its block files are
abbrev pub OneFolderListing : Type 0
OneFolderListing =
    (words : List Bytes) (paths : Paths) (path old : Bytes) (standing names files : List Bytes) (before x y : End)
    → listing_asked_of words ≡ Some (folder path) → paths.listed path ≡ lists standing → AreFileNames standing names
    → kept_in paths.kept path names ≡ map holds files → before.bytes ≡ Some old → IsListingEnd words paths before x listed
    → IsListingEnd words paths before y listed → x.bytes ≡ y.bytes

-- a file that is listed isn't refused
abbrev pub ListedIsNotRefused : Type 0
ListedIsNotRefused =
    (path bytes : Bytes) (before x y : End) (r : FileRefusal) → IsPathEnd path (holds bytes) before x listed
    → ¬ (IsPathEnd path (holds bytes) before y (misfiled r))

-- the header alone decides them: files of one header have the same lines, whatever their columns hold
abbrev pub HeadersDecide : Type 0
HeadersDecide =
    (bytes more : Bytes) (content others : FileContent) (zones : Zones) → IsOpened bytes content → IsOpened more others
    → header_of content ≡ header_of others → AreZonesOfFile zones bytes → AreZonesOfFile zones more

-- what is written of a table is listed with the statistics that its rows have
abbrev pub WrittenIsListed : Type 0
WrittenIsListed = (rows : Option ℕ) (told : ToldTable) (bytes : Bytes) → IsFileOf rows told bytes → AreZonesOfFile (zones_kept rows told) bytes
