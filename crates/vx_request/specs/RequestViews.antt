-- How the parts of a request are seen, and what is answered to bytes.
use Rattle.std.specs.Prelude.{◌≡◌, ℕ, List, map, Result, Ok, Err}
use Rattle.std.proofs.Common.{Bor}
use Rattle.serde_json.specs.Data.{Items}
use Rattle.serde_json.specs.View.{items_view}
use Rattle.serde_json.specs.declared.value.Value.{Value}
use Rattle.std.specs.declared.vec.Vec.{Vec}
use Rattle.std.specs.declared.alloc.Global.{Global}
use Rattle.vx_dtype.specs.declared.names.FieldName.{FieldName}
use Rattle.vx_dtype.specs.declared.types.DType.{DType}
use Rattle.vx_dtype.specs.Types.{Bytes, Ty}
use Rattle.vx_dtype.specs.TypeViews.{type_view}
use Rattle.vx_dtype.specs.Values.{Raw}
use Rattle.vx_dtype.specs.RawViews.{raw_view}
use Rattle.vx_dtype.specs.declared.values.ScalarValue.{ScalarValue}
use Rattle.vx_column.specs.Columns.{Column}
use Rattle.vx_request.specs.RequestMembers.{BlockText, StatText}
use Rattle.vx_request.specs.Requests.{RequestedScan}
use Rattle.vx_request.specs.Tables as tables
use Rattle.vx_request.specs.declared.request_members.Block.{Block}
use Rattle.vx_request.specs.declared.request_members.Statistic.{Statistic}
use Rattle.vx_request.specs.declared.requests.ScanRequest.{ScanRequest}
use Rattle.vx_request.specs.declared.tables.ToldTable.{ToldTable}
use Rattle.vx_request.specs.declared.errors.RequestError.{RequestError}
use Rattle.vx_request.specs.declared.errors.RequestError.TheVariants.{NoMemory}

-- a name beside a type
abbrev pub named_type_view : FieldName × DType → Bytes × Ty
named_type_view p = (p.0, type_view p.1)

-- the cells of a column of a block
abbrev pub cells_view : Bor (Vec Value Global) → Items
cells_view v = items_view v.now.items

-- the block that this one stands for
abbrev pub block_view : Block → BlockText
block_view b = record { rows = b.rows; values = map cells_view b.values.items }

-- a name of a path
abbrev pub name_view : Bor (List ℕ) → Bytes
name_view s = s.now

-- the statistic that this one stands for
abbrev pub stat_view : Statistic → StatText
stat_view s = record { path = map name_view s.path.items; stat = s.stat; values = cells_view s.values }

-- the raw values that values of the code stand for
abbrev pub raws_view : Vec ScalarValue Global → List Raw
raws_view v = map raw_view v.items

-- the columns of a block
abbrev pub columns_view : Vec Column Global → List Column
columns_view v = v.items

-- the scan that this one stands for
abbrev pub scan_view : ScanRequest → RequestedScan
scan_view a = record { zones = a.zones; blocks = map columns_view a.blocks.items; filter = a.filter.items; projection = a.projection.items }

-- the table that this one stands for
abbrev pub told_view : ToldTable → tables.ToldTable
told_view t = record { zones = t.zones; blocks = map columns_view t.blocks.items }

-- the answer is the one that is told, seen so; want of memory may be answered at any time
abbrev pub RequestAnswers : {A B : Type 0} → (A → B) → Result B RequestError → Result A RequestError → Type 0
RequestAnswers see told (Ok x) = told ≡ Ok (see x)
RequestAnswers see told (Err NoMemory) = Unit {0}
RequestAnswers see told (Err e) = told ≡ Err e
