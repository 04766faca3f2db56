-- A request: one function of the bytes, with the first refusal in the order of its places. Each place is read whole before the next one.
use Rattle.std.specs.Prelude.{ℕ, ◌==◌, ◌&&◌, Bool, nat_le, cond, List, [], ◌∷◌, length, map, codes, Option, Some, None, ok_or, option_and_then, Result, Ok, Err}
use Rattle.std.specs.List.{list_all}
use Rattle.std.specs.Result.{result_ok}
use Rattle.std.specs.Str.{is_utf8}
use Rattle.serde_json.specs.Data.{Data}
use Rattle.serde_json.specs.Events.{items_len}
use Rattle.serde_json.specs.Read.{read}
use Rattle.serde_json.specs.Find.{as_str}
use Rattle.hex.specs.Hex.{decode_of}
use Rattle.vx_dtype.specs.declared.statistics.Stat.TheVariants.{NaNCount}
use Rattle.vx_dtype.specs.Types.{Bytes, Ty, Fields}
use Rattle.vx_dtype.specs.TypeRules.{field_names}
use Rattle.vx_dtype.specs.StructTypes.{field_types}
use Rattle.vx_column.specs.Columns.{Column}
use Rattle.vx_semantics.specs.Tables.{ZoneStat, Zones}
use Rattle.vx_zones.specs.Zoning.{broken_rule, leaf_type, statistic_type}
use Rattle.vx_zones.specs.declared.errors.ZoneError.{ZoneError}
use Rattle.vx_zones.specs.declared.errors.ZoneError.TheVariants as zones
use Rattle.vx_request.specs.Objects.{object_of}
use Rattle.vx_request.specs.RequestMembers.{BlockText, StatText, columns_in, blocks_in, stats_in}
use Rattle.vx_request.specs.Cells.{stat_cells, blocks_of}
use Rattle.vx_request.specs.declared.errors.Place.{Place}
use Rattle.vx_request.specs.declared.errors.Place.TheVariants.{Top, Columns, Blocks, Stats}
use Rattle.vx_request.specs.declared.errors.Place.TheVariants as places
use Rattle.vx_request.specs.declared.errors.Side.{Side}
use Rattle.vx_request.specs.declared.errors.Side.TheVariants.{Filter, Projection}
use Rattle.vx_request.specs.declared.errors.TableRefusal.TheVariants.{DuplicateName, DeepType, BadStatPath, DuplicateStat, WrongStatCount, WrongStatType}
use Rattle.vx_request.specs.declared.errors.TableRefusal.TheVariants.{WrongLength, WrongValue}
use Rattle.vx_request.specs.declared.errors.RequestError.{RequestError}
use Rattle.vx_request.specs.declared.errors.RequestError.TheVariants.{NoMemory, InputTooLong, BadJson, BadRequest, BadHex, BadTable}

-- a request as it stands: its columns, its blocks and statistics with their cells, and two texts of hexadecimal digits
pub record RequestText : Type 0 where
  pub columns : Fields
  pub blocks : List BlockText
  pub stats : List StatText
  pub filter : Bytes
  pub projection : Bytes

-- what a request holds, a scan: the zones of a table, each block's columns, and the bytes of the filter and of the projection
pub record RequestedScan : Type 0 where
  pub zones : Zones
  pub blocks : List (List Column)
  pub filter : Bytes
  pub projection : Bytes

-- the most bytes of a request
abbrev pub most_bytes : ℕ
most_bytes = 16777216

-- the step after an answer; a refusal stays
infixl 10 ◌>>=◌
abbrev pub ◌>>=◌ : {A B E : Type 0} → Result A E → (A → Result B E) → Result B E
(Ok x) >>= f = f x
(Err e) >>= f = Err e

-- an answer where this holds, else the refusal
abbrev pub ensured : {E : Type 0} → Bool → E → Result Unit E
ensured b e = cond b (Ok tt) (Err e)

-- the value that bytes are the text of
abbrev pub value_in : Bytes → Option Data
value_in bytes = cond (is_utf8 bytes) (read bytes) None

abbrev pub json_in : Bytes → Result Data RequestError
json_in bytes = ok_or (value_in bytes) BadJson

-- what is read at a place, else the refusal that names the place
abbrev pub at_place : {A : Type 0} → Place → Option A → Result A RequestError
at_place p found = ok_or found (BadRequest p)

-- a request's five members, read one after another
abbrev pub members_text : List Data → Result RequestText RequestError
members_text (columns ∷ blocks ∷ stats ∷ filter ∷ projection ∷ []) = do
  cs ← at_place Columns (columns_in columns)
  bs ← at_place Blocks (blocks_in blocks)
  ss ← at_place Stats (stats_in stats)
  f ← at_place places.Filter (as_str filter)
  p ← at_place places.Projection (as_str projection)
  Ok (record { columns = cs; blocks = bs; stats = ss; filter = f; projection = p })
members_text _ = Err (BadRequest Top)

abbrev pub member_names : List Bytes
member_names = codes "columns" ∷ codes "blocks" ∷ codes "stats" ∷ codes "filter" ∷ codes "projection" ∷ []

-- the request that a value is: an object of exactly these members
abbrev pub text_in : Data → Result RequestText RequestError
text_in d = do
  members ← at_place Top (object_of member_names d)
  members_text members

-- the bytes that hexadecimal digits stand for, two digits a byte
abbrev pub hex_bytes : Bytes → Option Bytes
hex_bytes text = result_ok (decode_of text)

abbrev pub bytes_in : Side → Bytes → Result Bytes RequestError
bytes_in side text = ok_or (hex_bytes text) (BadHex side)

-- what stands for a statistic whose path leads to no plain field: zones with this statistic are refused for its path
abbrev pub no_stat : ZoneStat
no_stat = record { path = []; stat = NaNCount; values = [] }

-- a statistic with its cells as values of its type
abbrev pub typed_stat : StatText → Option Ty → ZoneStat
typed_stat s None = no_stat
typed_stat s (Some t) = record { path = s.path; stat = s.stat; values = stat_cells t s.values }

-- a statistic of a table with these columns
abbrev pub stat_of : Fields → StatText → ZoneStat
stat_of columns s = typed_stat s (option_and_then (statistic_type s.stat) (leaf_type columns s.path))

-- the zones of these columns, blocks and statistics
abbrev pub zones_of : Fields → List BlockText → List StatText → Zones
zones_of columns blocks stats = record { columns = columns; lengths = map (λ b. b.rows) blocks; stats = map (stat_of columns) stats }

-- the refusal of zones
abbrev pub zone_refusal : ZoneError → RequestError
zone_refusal zones.NoMemory = NoMemory
zone_refusal zones.DuplicateName = BadTable DuplicateName
zone_refusal zones.DeepType = BadTable DeepType
zone_refusal zones.BadStatPath = BadTable BadStatPath
zone_refusal zones.DuplicateStat = BadTable DuplicateStat
zone_refusal zones.WrongStatCount = BadTable WrongStatCount
zone_refusal zones.WrongStatType = BadTable WrongStatType

-- the zones, where they break no rule, else the refusal of the first one that they break
abbrev pub zones_by : Zones → Option ZoneError → Result Zones RequestError
zones_by z None = Ok z
zones_by z (Some e) = Err (zone_refusal e)

abbrev pub sound_zones : Zones → Result Zones RequestError
sound_zones z = zones_by z (broken_rule z)

-- whether a block has one list of cells per column, and each has one cell per row
abbrev pub is_rectangle : ℕ → BlockText → Bool
is_rectangle columns b = (length b.values == columns) && list_all (λ cells. items_len cells == b.rows) b.values

-- the columns of blocks: each list of cells has its column's length, and then each cell is a value of its column's type
abbrev pub block_columns : Fields → List BlockText → Result (List (List Column)) RequestError
block_columns columns blocks = do
  shaped ← ensured (list_all (is_rectangle (length (field_names columns))) blocks) (BadTable WrongLength)
  ok_or (blocks_of (field_types columns) (map (λ b. b.values) blocks)) (BadTable WrongValue)

-- the scan of zones and blocks beside two texts
abbrev pub scan_with : Zones → Fields → List BlockText → Bytes → Bytes → Result RequestedScan RequestError
scan_with zones columns blocks filter projection = do
  made ← block_columns columns blocks
  Ok (record { zones = zones; blocks = made; filter = filter; projection = projection })

-- the scan that a request holds: both texts are digits of bytes, the zones break no rule, and the cells are those of the columns
abbrev pub scan_in : RequestText → Result RequestedScan RequestError
scan_in r = do
  filter ← bytes_in Filter r.filter
  projection ← bytes_in Projection r.projection
  zones ← sound_zones (zones_of r.columns r.blocks r.stats)
  scan_with zones r.columns r.blocks filter projection

-- the scan that a value holds
abbrev pub scan_of : Data → Result RequestedScan RequestError
scan_of d = text_in d >>= scan_in

-- the scan that an input holds, or the first refusal: of its length, of its text, of its places in order, of its bytes, of its table
unfoldable pub request_of : Bytes → Result RequestedScan RequestError
request_of input = do
  within ← ensured (nat_le (length input) most_bytes) InputTooLong
  d ← json_in input
  scan_of d
