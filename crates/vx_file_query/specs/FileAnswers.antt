-- What is answered to an input that asks the scan of a block file.
use Rattle.std.specs.Prelude.{◌≡◌, [], Some, None, Ok, Err}
use Rattle.vx_dtype.specs.Types.{Bytes}
use Rattle.vx_expr.specs.Trees.{Tree}
use Rattle.vx_semantics.specs.Scans.{kept_rows_of, skipped_blocks, reads_of}
use Rattle.vx_scan.specs.ErrorKinds.{ErrorKind, of_memory, of_text, of_types, of_break, of_read, kind_of}
use Rattle.vx_scan.specs.Reports.{Report}
use Rattle.vx_scan.specs.declared.errors.ScanError.{ScanError}
use Rattle.vx_laws_file.specs.FileForms.{FileContent}
use Rattle.vx_laws_file.specs.Opening.{bad_magic, bad_header, bad_zones, bad_end, IsRefusedFile}
use Rattle.vx_laws_file.specs.HeldTables.{held_table}
use Rattle.vx_zones.specs.declared.errors.ZoneError.{ZoneError}
use Rattle.vx_request.specs.FileRequests.{RequestedFile, file_request_of}
use Rattle.vx_request.specs.declared.errors.FileRequestError.{FileRequestError}
use Rattle.vx_request.specs.declared.errors.FileRequestError.TheVariants as requests
use Rattle.vx_file_open.specs.Layouts.{IsFileWith}
use Rattle.vx_file_open.specs.declared.errors.FileError.{FileError}
use Rattle.vx_file_open.specs.declared.errors.FileError.TheVariants as opens
use Rattle.vx_file.specs.FileStates.{FileState}
use Rattle.vx_file_query.specs.FileEndings.{HoldsBadFile, HoldsFileRefused, HoldsFileBreak, FileEnds, file_reported}
use Rattle.vx_file_query.specs.declared.errors.FilePart.{FilePart}
use Rattle.vx_file_query.specs.declared.errors.FilePart.TheVariants.{Magic, Header, Zones, End, Column}
use Rattle.vx_file_query.specs.declared.errors.FileScanError.{FileScanError}
use Rattle.vx_file_query.specs.declared.errors.FileScanError.TheVariants.{NoMemory, Request, BadFile, Scan}

-- a report of the scan that an input asks: what the projection means at the rows of the kept blocks at which the filter means true, the blocks that the
-- file's statistics rule out, and as the file's reads those of the scan
pub record IsFileReport (input : Bytes) (report : Report) (file : FileState) : Type 0 where
  pub asked : RequestedFile
  pub content : FileContent
  pub filter : Tree
  pub projection : Tree
  pub ends : FileEnds input (file_reported asked content filter projection)
  pub rows : report.rows ≡ kept_rows_of (held_table content) content.zones [] filter projection
  pub skipped : report.skipped ≡ skipped_blocks content.zones [] filter
  pub zones : file.header.zones ≡ content.zones
  pub reads : file.reads ≡ reads_of (held_table content) content.zones [] filter projection

-- why an input has no report, by the kind of the scan's error: its expressions are refused, or its scan breaks
abbrev pub IsFileStopped : ErrorKind → Bytes → ScanError → Type 0
IsFileStopped of_text input e = HoldsFileRefused e input
IsFileStopped of_types input e = HoldsFileRefused e input
IsFileStopped (of_break cause) input e = HoldsFileBreak cause input
IsFileStopped _ input e = ⊥

-- why an input has no report: want of memory at any time, else the one reason
abbrev pub IsFileUnreported : Bytes → FileScanError → Type 0
IsFileUnreported input NoMemory = Unit {0}
IsFileUnreported input (Request e) = file_request_of input ≡ Err e
IsFileUnreported input (BadFile part) = HoldsBadFile part input
IsFileUnreported input (Scan e) = IsFileStopped (kind_of e) input e

-- what a refusal of the request is, and one of the scan: no read of the bytes fails, so that one that failed was of a damaged column
abbrev pub request_error : FileRequestError → FileScanError
request_error requests.NoMemory = NoMemory
request_error e = Request e

abbrev pub kind_error : ErrorKind → ScanError → FileScanError
kind_error of_memory e = NoMemory
kind_error of_read e = BadFile Column
kind_error _ e = Scan e

abbrev pub scan_error : ScanError → FileScanError
scan_error e = kind_error (kind_of e) e

-- For the checker: no public clause cites what follows.

-- the file that bytes are, which wasn't read yet, and whose source counted no fault
pub record IsReady (bytes : Bytes) (file : FileState) : Type 0 where
  pub told : file.bytes ≡ Some bytes
  pub count : file.count ≡ 0
  pub opened : IsFileWith file.header bytes
  pub reads : file.reads ≡ []
  pub failed : file.failed ≡ None
  pub damaged : file.damaged ≡ []

-- what it is where bytes of which no read fails aren't opened
abbrev pub IsOpenError : FileError → FileScanError → Type 0
IsOpenError opens.NoMemory e = e ≡ NoMemory
IsOpenError opens.ReadFault e = ⊥
IsOpenError opens.BadMagic e = e ≡ BadFile Magic
IsOpenError opens.BadHeader e = e ≡ BadFile Header
IsOpenError (opens.BadZones why) e = e ≡ BadFile Zones
IsOpenError opens.BadEnd e = e ≡ BadFile End

-- why bytes aren't opened
abbrev pub IsRefusedPart : FilePart → Bytes → Type 0
IsRefusedPart Magic bytes = IsRefusedFile bytes bad_magic
IsRefusedPart Header bytes = IsRefusedFile bytes bad_header
IsRefusedPart Zones bytes = (e : ZoneError) × IsRefusedFile bytes (bad_zones e)
IsRefusedPart End bytes = IsRefusedFile bytes bad_end
IsRefusedPart Column bytes = ⊥

abbrev pub IsUnopened : Bytes → FileScanError → Type 0
IsUnopened bytes NoMemory = Unit {0}
IsUnopened bytes (BadFile part) = IsRefusedPart part bytes
IsUnopened bytes _ = ⊥

-- an input asks the scan of this file by these texts
pub record AsksFile (input : Bytes) (a : RequestedFile) (filter projection : Bytes) (file : FileState) : Type 0 where
  pub asked : file_request_of input ≡ Ok a
  pub filter_text : a.filter ≡ filter
  pub projection_text : a.projection ≡ projection
  pub ready : IsReady a.file file
