-- How the scan of a block file ends that an input asks: one relation between the bytes of the input and the ending, by what the file holds.
use Rattle.std.specs.Prelude.{◌≡◌, ◌⊎◌, true, false, List, [], Result, Ok, Err}
use Rattle.std.specs.List.{AllByRecursion}
use Rattle.vx_dtype.specs.Types.{Bytes, Ty}
use Rattle.vx_expr.specs.Trees.{Tree}
use Rattle.vx_semantics.specs.Breaks.{Cause}
use Rattle.vx_semantics.specs.Tables.{row_type}
use Rattle.vx_semantics.specs.Scans.{reads_to_break, phases_of, some_phase_breaks, first_breaks_by}
use Rattle.vx_wire.specs.Encodings.{is_default_kind}
use Rattle.vx_zones.specs.declared.errors.ZoneError.{ZoneError}
use Rattle.vx_scan.specs.Scanning.{scan_type}
use Rattle.vx_scan.specs.Stores.{Read}
use Rattle.vx_scan.specs.Texts.{SpellBoth, AreRefused}
use Rattle.vx_scan.specs.declared.errors.ScanError.{ScanError}
use Rattle.vx_laws_file.specs.FileForms.{FileContent}
use Rattle.vx_laws_file.specs.Opening.{IsOpened, FileRefusal, bad_magic, bad_header, bad_zones, bad_end, IsRefusedFile}
use Rattle.vx_laws_file.specs.Ranges.{IsDamaged}
use Rattle.vx_laws_file.specs.HeldTables.{held_table}
use Rattle.vx_request.specs.FileRequests.{RequestedFile, file_request_of}
use Rattle.vx_request.specs.declared.errors.FileRequestError.{FileRequestError}
use Rattle.vx_file_query.specs.declared.errors.FilePart.{FilePart}
use Rattle.vx_file_query.specs.declared.errors.FilePart.TheVariants.{Magic, Header, Zones, End, Column}

-- the reads of the scan of a filter and a projection over the table that a file holds, up to the end of the first phase that breaks
abbrev pub file_reads : FileContent → Tree → Tree → List Read
file_reads content f p = reads_to_break (held_table content) content.zones [] f p

-- one of them is of a damaged pair; and none is
abbrev pub MeetsDamage : FileContent → Tree → Tree → Type 0
MeetsDamage content f p = ¬ (AllByRecursion (λ read. ¬ (IsDamaged content read.0 read.1)) (file_reads content f p))

abbrev pub MeetsNoDamage : FileContent → Tree → Tree → Type 0
MeetsNoDamage content f p = ¬ (MeetsDamage content f p)

-- none is, and the first phase that breaks does so by this cause; and none is, and no phase breaks
abbrev pub BreaksFileBy : Cause → FileContent → Tree → Tree → Type 0
BreaksFileBy cause content f p =
    MeetsNoDamage content f p
    × (first_breaks_by cause (row_type content.zones.columns) [] (phases_of (held_table content) content.zones [] f p) ≡ true)

abbrev pub IsFileWhole : FileContent → Tree → Tree → Type 0
IsFileWhole content f p = MeetsNoDamage content f p × (some_phase_breaks (held_table content) content.zones [] f p ≡ false)

-- the two byte texts of a request spell this filter and this projection
abbrev pub SpellsFile : RequestedFile → Tree → Tree → Type 0
SpellsFile a f p = SpellBoth is_default_kind a.filter a.projection f p

-- the type of the rows of the scan of what a file holds, or the refusal of its expressions
abbrev pub type_of_file : FileContent → Tree → Tree → Result Ty ScanError
type_of_file content f p = scan_type (row_type content.zones.columns) [] f p

-- an input that asks the scan of a block file, whose bytes hold this
pub record HoldsContent (input : Bytes) (a : RequestedFile) (content : FileContent) : Type 0 where
  pub asked : file_request_of input ≡ Ok a
  pub opened : IsOpened a.file content

-- one whose texts spell this filter and this projection, both strictly typed for the file's table, the filter a boolean
pub record HoldsFileScan (input : Bytes) (a : RequestedFile) (content : FileContent) (f p : Tree) : Type 0 where
  pub holds : HoldsContent input a content
  pub spelled : SpellsFile a f p
  pub ty : Ty
  pub typed : type_of_file content f p ≡ Ok ty

-- an input that asks the scan of bytes that are no block file, for this reason
pub record HoldsNoFile (refusal : FileRefusal) (input : Bytes) : Type 0 where
  pub asked : RequestedFile
  pub held : file_request_of input ≡ Ok asked
  pub refused : IsRefusedFile asked.file refusal

-- why the expressions of the scan of a file are refused: its texts spell none, or they are not typed so
abbrev pub AreFileTextsRefused : RequestedFile → FileContent → ScanError → Type 0
AreFileTextsRefused a content e =
    AreRefused is_default_kind a.filter a.projection e ⊎ ((f : Tree) × (p : Tree) × SpellsFile a f p × (type_of_file content f p ≡ Err e))

-- an input that asks the scan of a block file by expressions that are refused so
pub record HoldsFileRefused (e : ScanError) (input : Bytes) : Type 0 where
  pub asked : RequestedFile
  pub content : FileContent
  pub holds : HoldsContent input asked content
  pub refused : AreFileTextsRefused asked content e

-- an input that asks a scan of which this is so
pub record HoldsFileSo (So : FileContent → Tree → Tree → Type 0) (input : Bytes) : Type 0 where
  pub asked : RequestedFile
  pub content : FileContent
  pub filter : Tree
  pub projection : Tree
  pub scan : HoldsFileScan input asked content filter projection
  pub so : So content filter projection

-- an input that asks the scan of a block file of which this part isn't as it has to be: each one where those before it are; that of a column, where a read
-- of the scan, up to the end of the first phase that breaks, is of a damaged pair
abbrev pub HoldsBadFile : FilePart → Bytes → Type 0
HoldsBadFile Magic input = HoldsNoFile bad_magic input
HoldsBadFile Header input = HoldsNoFile bad_header input
HoldsBadFile Zones input = (e : ZoneError) × HoldsNoFile (bad_zones e) input
HoldsBadFile End input = HoldsNoFile bad_end input
HoldsBadFile Column input = HoldsFileSo MeetsDamage input

-- an input that asks the scan of a block file that breaks by this cause
abbrev pub HoldsFileBreak : Cause → Bytes → Type 0
HoldsFileBreak cause input = HoldsFileSo (BreaksFileBy cause) input

-- how such a scan ends: the input is no request; the file isn't as it has to be; its expressions are refused; it breaks by a cause; or it has a report, of
-- this filter and this projection over the table that this file holds
pub data FileEnding : Type 0 where
  misasked : FileRequestError → FileEnding
  misfiled : FilePart → FileEnding
  file_unscanned : ScanError → FileEnding
  file_broken : Cause → FileEnding
  file_reported : RequestedFile → FileContent → Tree → Tree → FileEnding

-- the scan that an input asks ends so
abbrev pub FileEnds : Bytes → FileEnding → Type 0
FileEnds input (misasked e) = file_request_of input ≡ Err e
FileEnds input (misfiled part) = HoldsBadFile part input
FileEnds input (file_unscanned e) = HoldsFileRefused e input
FileEnds input (file_broken cause) = HoldsFileBreak cause input
FileEnds input (file_reported a content f p) = HoldsFileScan input a content f p × IsFileWhole content f p
