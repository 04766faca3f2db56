-- Whether the blocks of a request agree with its zones.
use Rattle.std.specs.Prelude.{Bool, true, ◌&&◌, Result, Ok, Err}
use Rattle.vx_tables.specs.Blocks.{have_lengths, have_types}
use Rattle.vx_request.specs.Requests.{RequestedScan}
use Rattle.vx_request.specs.declared.errors.RequestError.{RequestError}

-- whether the blocks of a scan have the numbers and the types of its zones, where there is one
abbrev pub agree : Result RequestedScan RequestError → Bool
agree (Err e) = true
agree (Ok a) = have_lengths a.zones a.blocks && have_types a.zones a.blocks
