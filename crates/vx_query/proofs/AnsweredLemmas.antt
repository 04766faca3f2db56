-- The answer to an input that holds a scan: how this scan ends by the statistics by which it goes.
use Rattle.std.proofs.Common.{◌≡◌, Ok}
use Rattle.vx_dtype.specs.Types.{Bytes}
use Rattle.vx_scan.specs.Stores.{StoreSeen}
use Rattle.vx_request.specs.Requests.{RequestedScan, request_of}
use Rattle.vx_query.specs.EndingViews.{IsAnswered, IsScanned}
use Rattle.vx_query.specs.RefusalViews.{IsUnanswered, IsUnscanned}
use Rattle.vx_query.specs.Running.{Statistics, scan_by}
use Rattle.vx_query.specs.declared.endings.Ending.{Ending}
use Rattle.vx_query.specs.declared.refusals.Refusal.{Refusal}
use Rattle.vx_query.specs.declared.refusals.Refusal.TheVariants.{NoMemory, ReadFault, InputTooLong, BadJson, BadRequest, BadHex, BadTable, BadHexText, Scan, Query, NotSerializable, LongPart, UnknownKey, BadKey, LongTable, FileScan}
use Rattle.vx_query.proofs.StatisticsLemmas.{holds_by, refused_as}

-- an input that holds a scan whose expressions are typed is answered by how it ends
pub answered_by : (chosen : Statistics) (input : Bytes) (a : RequestedScan) (ending : Ending) (seen : StoreSeen) → request_of input ≡ Ok a
    → IsScanned (scan_by chosen a) ending seen → IsAnswered chosen input ending seen
answered_by chosen input a ending seen found scanned = record {
  asked = a;
  filter = scanned.filter;
  projection = scanned.projection;
  holds = holds_by chosen input a scanned.filter scanned.projection scanned.ty found scanned.spelled scanned.typed;
  ends = scanned.ends;
}

-- an input that holds a scan whose expressions are refused is answered so
pub unscanned_by : (chosen : Statistics) (input : Bytes) (a : RequestedScan) (r : Refusal) → request_of input ≡ Ok a → IsUnscanned (scan_by chosen a) r
    → IsUnanswered input r
unscanned_by chosen input a NoMemory found none = tt
unscanned_by chosen input a ReadFault found none = absurd none
unscanned_by chosen input a InputTooLong found none = absurd none
unscanned_by chosen input a BadJson found none = absurd none
unscanned_by chosen input a (BadRequest place) found none = absurd none
unscanned_by chosen input a (BadHex side) found none = absurd none
unscanned_by chosen input a (BadTable refusal) found none = absurd none
unscanned_by chosen input a BadHexText found none = absurd none
unscanned_by chosen input a (Query e) found none = absurd none
unscanned_by chosen input a NotSerializable found none = absurd none
unscanned_by chosen input a LongPart found none = absurd none
unscanned_by chosen input a UnknownKey found none = absurd none
unscanned_by chosen input a BadKey found none = absurd none
unscanned_by chosen input a LongTable found none = absurd none
unscanned_by chosen input a (FileScan e) found none = absurd none
unscanned_by chosen input a (Scan e) found refused = record { asked = a; held = found; refused = refused_as chosen a e refused }
