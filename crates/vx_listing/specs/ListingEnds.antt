-- How refusals end a run, and of what they come.
use Rattle.std.specs.Prelude.{◌≡◌, ℕ, Option, Some, Result, Ok, Err}
use Rattle.std.specs.String.{string_bytes}
use Rattle.vx_dtype.specs.Types.{Bytes}
use Rattle.vx_laws_file.specs.Opening.{bad_magic, bad_header, bad_zones, bad_end}
use Rattle.vx_file_open.specs.declared.errors.FileError.{FileError}
use Rattle.vx_file_open.specs.declared.errors.FileError.TheVariants as files
use Rattle.vx_laws_listing.specs.Listing as ends
use Rattle.vx_laws_listing.specs.Listing.{ListingEnd, listing_status, listing_told}
use Rattle.vx_listing.specs.declared.errors.LineError.{LineError}
use Rattle.vx_listing.specs.declared.errors.LineError.TheVariants as lines
use Rattle.vx_listing.specs.declared.errors.ListingError.{ListingError}
use Rattle.vx_listing.specs.declared.errors.ListingError.TheVariants as errors
use Rattle.vx_listing.specs.declared.errors.Refusal.{Refusal}
use Rattle.vx_listing.specs.declared.errors.Refusal.TheVariants as refusals

-- why a file isn't listed whose lines aren't written whole, or that isn't opened
abbrev pub line_error : LineError → ListingError
line_error lines.NoMemory = errors.NoMemory
line_error lines.Unwritten = errors.Unwritten

abbrev pub file_error : FileError → ListingError
file_error files.NoMemory = errors.NoMemory
file_error files.ReadFault = errors.ReadFault
file_error files.BadMagic = errors.BadMagic
file_error files.BadHeader = errors.BadHeader
file_error (files.BadZones e) = errors.BadZones e
file_error files.BadEnd = errors.BadEnd

-- how a run ends of a file that isn't listed
abbrev pub error_end : ListingError → ListingEnd
error_end errors.NoMemory = ends.without_memory
error_end errors.ReadFault = ends.unread
error_end errors.BadMagic = ends.misfiled bad_magic
error_end errors.BadHeader = ends.misfiled bad_header
error_end (errors.BadZones e) = ends.misfiled (bad_zones e)
error_end errors.BadEnd = ends.misfiled bad_end
error_end errors.Unwritten = ends.unwritten

-- the exit status of a refusal, and the line that it tells on standard error
abbrev pub refusal_status : Refusal → ℕ
refusal_status refusals.Usage = 2
refusal_status refusals.NotOpened = 6
refusal_status refusals.NoFolder = 6
refusal_status (refusals.FileNotOpened line) = 6
refusal_status (refusals.NoTable line) = 3
refusal_status (refusals.NotListed e) = listing_status (error_end e)

abbrev pub refusal_line : Refusal → Option Bytes
refusal_line refusals.Usage = listing_told ends.misused
refusal_line refusals.NotOpened = listing_told ends.unopened
refusal_line refusals.NoFolder = listing_told ends.unlisted
refusal_line (refusals.FileNotOpened line) = Some (string_bytes line)
refusal_line (refusals.NoTable line) = Some (string_bytes line)
refusal_line (refusals.NotListed e) = listing_told (error_end e)

-- a refusal tells the status and the line of an end
pub record TellsEnd (end : ListingEnd) (refusal : Refusal) : Type 0 where
  pub status : refusal_status refusal ≡ listing_status end
  pub line : refusal_line refusal ≡ listing_told end

-- what is said of the end of a run holds of what is answered: of the lines that were written, or of the end that a refusal tells
abbrev pub Ends : (ListingEnd → Type 0) → Result (Unit {0}) Refusal → Type 0
Ends P (Ok done) = P ends.listed
Ends P (Err refusal) = (end : ListingEnd) × P end × TellsEnd end refusal
