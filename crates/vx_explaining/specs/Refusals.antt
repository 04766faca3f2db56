-- Why words aren't answered: the exit status and the line of each refusal, and of what it comes.
use Rattle.std.specs.Prelude.{◌≡◌, ℕ, codes, Option, Some, None}
use Rattle.std.specs.String.{string_bytes}
use Rattle.vx_dtype.specs.Types.{Bytes}
use Rattle.vx_io.specs.declared.reading.InputError.{InputError}
use Rattle.vx_io.specs.declared.reading.InputError.TheVariants as inputs
use Rattle.vx_request.specs.declared.errors.RequestError.{RequestError}
use Rattle.vx_request.specs.declared.errors.RequestError.TheVariants as requests
use Rattle.vx_file_open.specs.declared.errors.FileError.{FileError}
use Rattle.vx_file_open.specs.declared.errors.FileError.TheVariants as files
use Rattle.vx_laws_explaining.specs.Explaining.{ExplainingEnd, explaining_status, explaining_told, untold_line}
use Rattle.vx_explaining.specs.declared.errors.PieceError.{PieceError}
use Rattle.vx_explaining.specs.declared.errors.PieceError.TheVariants as pieces
use Rattle.vx_explaining.specs.declared.errors.Refusal.{Refusal}
use Rattle.vx_explaining.specs.declared.errors.Refusal.TheVariants as refusals

-- the exit status of a refusal
abbrev pub refusal_status : Refusal → ℕ
refusal_status refusals.NoMemory = 8
refusal_status refusals.Usage = 2
refusal_status (refusals.NotOpened line) = 6
refusal_status refusals.Unlisted = 6
refusal_status refusals.Unread = 6
refusal_status (refusals.NoTable error) = 3
refusal_status refusals.BadMagic = 3
refusal_status refusals.BadHeader = 3
refusal_status refusals.BadZones = 3
refusal_status refusals.BadEnd = 3
refusal_status (refusals.Mixed line) = 3
refusal_status (refusals.Statement line) = 4
refusal_status refusals.Unlimited = 4
refusal_status refusals.Unwritten = 7

-- the line that a refusal tells on standard error
abbrev pub refusal_line : Refusal → Option Bytes
refusal_line refusals.NoMemory = Some (codes "error: there is no memory\n")
refusal_line refusals.Usage = Some (codes "error: usage: explain sql STATEMENT [--json | --svg]\n")
refusal_line (refusals.NotOpened line) = Some (string_bytes line)
refusal_line refusals.Unlisted = Some (codes "error: the folder can't be listed\n")
refusal_line refusals.Unread = Some (codes "error: a read failed\n")
refusal_line (refusals.NoTable error) = Some (untold_line error)
refusal_line refusals.BadMagic = Some (codes "error: no block file: it doesn't begin with the mark\n")
refusal_line refusals.BadHeader = Some (codes "error: no block file: it has no header\n")
refusal_line refusals.BadZones = Some (codes "error: no block file: a name or a statistic stands twice in its header\n")
refusal_line refusals.BadEnd = Some (codes "error: no block file: it doesn't end where its last column does\n")
refusal_line (refusals.Mixed line) = Some (string_bytes line)
refusal_line (refusals.Statement line) = Some (string_bytes line)
refusal_line refusals.Unlimited = Some (codes "error: ORDER BY needs a LIMIT\n")
refusal_line refusals.Unwritten = None

-- a refusal tells the status and the line of an end
pub record TellsEnd (end : ExplainingEnd) (refusal : Refusal) : Type 0 where
  pub status : refusal_status refusal ≡ explaining_status end
  pub line : refusal_line refusal ≡ explaining_told end

-- of what refusals come
abbrev pub piece_refusal : PieceError → Refusal
piece_refusal pieces.NoMemory = refusals.NoMemory
piece_refusal pieces.Unwritten = refusals.Unwritten

abbrev pub input_refusal : InputError → Refusal
input_refusal inputs.NoMemory = refusals.NoMemory
input_refusal inputs.ReadFault = refusals.Unread

abbrev pub table_refusal : RequestError → Refusal
table_refusal requests.NoMemory = refusals.NoMemory
table_refusal error = refusals.NoTable error

abbrev pub file_refusal : FileError → Refusal
file_refusal files.NoMemory = refusals.NoMemory
file_refusal files.ReadFault = refusals.Unread
file_refusal files.BadMagic = refusals.BadMagic
file_refusal files.BadHeader = refusals.BadHeader
file_refusal (files.BadZones e) = refusals.BadZones
file_refusal files.BadEnd = refusals.BadEnd
