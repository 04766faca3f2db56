-- What the exit status of a run tells whose arguments ask the block file of a request's table.
use Rattle.std.specs.Prelude.{◌≡◌, codes, Option, Some, None, Ok}
use Rattle.vx_dtype.specs.Types.{Bytes}
use Rattle.vx_io.specs.Ends.{Added}
use Rattle.vx_scan.specs.Stores.{StoreSeen}
use Rattle.vx_request.specs.Requests.{RequestedScan, request_of}
use Rattle.vx_query.specs.Refusals.{refusal_line}
use Rattle.vx_query.specs.Running.{End, IsTaken, HoldsFile, HoldsLongTable, file_line}

-- the block file of the table that the input holds was written whole, two hexadecimal digits for each byte; no store is held
pub record IsFiled (in_before in_after out_before out_after : End) (used : Option StoreSeen) : Type 0 where
  pub input : Bytes
  pub asked : RequestedScan
  pub taken : IsTaken in_before in_after input
  pub holds : HoldsFile input asked
  pub written : Added out_before.bytes out_after.bytes (file_line asked)
  pub unheld : used ≡ None

-- an input was taken that holds a table too long for a block file, and the line of the refusal was written; no store is held
pub record IsUnfiled (in_before in_after out_before out_after : End) (used : Option StoreSeen) : Type 0 where
  pub input : Bytes
  pub taken : IsTaken in_before in_after input
  pub cause : HoldsLongTable input
  pub written : Added out_before.bytes out_after.bytes (refusal_line (codes "TooLong"))
  pub unheld : used ≡ None

-- an end that tells its bytes, which hold this table
pub record TellsTable (before : End) : Type 0 where
  pub input : Bytes
  pub told : before.bytes ≡ Some input
  pub asked : RequestedScan
  pub holds : request_of input ≡ Ok asked
