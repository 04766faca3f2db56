-- Why an input is no request, one definition for each refusal: of its length, of its text, of its places, of its hexadecimal digits, of its table.
use Rattle.std.specs.Prelude.{◌≡◌, ◌<◌, ◌≤◌, Bool, true, false, length, map, Some, None, Ok, Err}
use Rattle.std.specs.List.{list_all}
use Rattle.serde_json.specs.Data.{Data}
use Rattle.vx_dtype.specs.Types.{Bytes}
use Rattle.vx_dtype.specs.TypeRules.{field_names}
use Rattle.vx_dtype.specs.StructTypes.{field_types}
use Rattle.vx_semantics.specs.Tables.{Zones}
use Rattle.vx_zones.specs.Zoning.{broken_rule}
use Rattle.vx_zones.specs.declared.errors.ZoneError.TheVariants as rules
use Rattle.vx_request.specs.Cells.{blocks_of}
use Rattle.vx_request.specs.Requests.{RequestText, most_bytes, value_in, text_in, hex_bytes, zones_of, is_rectangle}
use Rattle.vx_request.specs.declared.errors.Place.{Place}
use Rattle.vx_request.specs.declared.errors.Side.{Side}
use Rattle.vx_request.specs.declared.errors.Side.TheVariants.{Filter, Projection}
use Rattle.vx_request.specs.declared.errors.TableRefusal.{TableRefusal}
use Rattle.vx_request.specs.declared.errors.TableRefusal.TheVariants.{DuplicateName, DeepType, BadStatPath, DuplicateStat, WrongStatCount, WrongStatType}
use Rattle.vx_request.specs.declared.errors.TableRefusal.TheVariants.{WrongLength, WrongValue}
use Rattle.vx_request.specs.declared.errors.RequestError.{RequestError}
use Rattle.vx_request.specs.declared.errors.RequestError.TheVariants.{NoMemory, InputTooLong, BadJson, BadRequest, BadHex, BadTable}

-- an input that is longer than a request may be
abbrev pub IsTooLong : Bytes → Type 0
IsTooLong input = most_bytes < length input

-- one that isn't, and is the JSON text of this value; and one that is the text of none
abbrev pub IsTextOf : Bytes → Data → Type 0
IsTextOf input value = (length input ≤ most_bytes) × (value_in input ≡ Some value)

abbrev pub IsNoJson : Bytes → Type 0
IsNoJson input = (length input ≤ most_bytes) × (value_in input ≡ None)

-- one whose value isn't of a request's form, first at this place
abbrev pub IsMisformed : Place → Bytes → Type 0
IsMisformed place input = (value : Data) × IsTextOf input value × (text_in value ≡ Err (BadRequest place))

-- one that has a request's form: the request as it stands
abbrev pub IsFormed : Bytes → RequestText → Type 0
IsFormed input r = (value : Data) × IsTextOf input value × (text_in value ≡ Ok r)

-- the text of one of its expressions is no hexadecimal text, the filter's first
abbrev pub HasBadDigits : Side → RequestText → Type 0
HasBadDigits Filter r = hex_bytes r.filter ≡ None
HasBadDigits Projection r = ((bytes : Bytes) × (hex_bytes r.filter ≡ Some bytes)) × (hex_bytes r.projection ≡ None)

abbrev pub HasBadHex : Side → Bytes → Type 0
HasBadHex side input = (r : RequestText) × IsFormed input r × HasBadDigits side r

-- both are
pub record HasDigits (r : RequestText) : Type 0 where
  pub filter : Bytes
  pub projection : Bytes
  pub filter_digits : hex_bytes r.filter ≡ Some filter
  pub projection_digits : hex_bytes r.projection ≡ Some projection

-- the table of a request as it stands, without its cells; whether each of its blocks has a list of cells for each column, and each list a cell for each row
abbrev pub formed_zones : RequestText → Zones
formed_zones r = zones_of r.columns r.blocks r.stats

abbrev pub has_rectangles : RequestText → Bool
has_rectangles r = list_all (is_rectangle (length (field_names r.columns))) r.blocks

-- why a request makes no table: the first rule that its columns and statistics break, else a block that is no rectangle, else a cell that is no value of its
-- column's type
abbrev pub IsNoTable : TableRefusal → RequestText → Type 0
IsNoTable DuplicateName r = broken_rule (formed_zones r) ≡ Some rules.DuplicateName
IsNoTable DeepType r = broken_rule (formed_zones r) ≡ Some rules.DeepType
IsNoTable BadStatPath r = broken_rule (formed_zones r) ≡ Some rules.BadStatPath
IsNoTable DuplicateStat r = broken_rule (formed_zones r) ≡ Some rules.DuplicateStat
IsNoTable WrongStatCount r = broken_rule (formed_zones r) ≡ Some rules.WrongStatCount
IsNoTable WrongStatType r = broken_rule (formed_zones r) ≡ Some rules.WrongStatType
IsNoTable WrongLength r = (broken_rule (formed_zones r) ≡ None) × (has_rectangles r ≡ false)
IsNoTable WrongValue r =
    (broken_rule (formed_zones r) ≡ None) × (has_rectangles r ≡ true) × (blocks_of (field_types r.columns) (map (λ b. b.values) r.blocks) ≡ None)

abbrev pub HasBadTable : TableRefusal → Bytes → Type 0
HasBadTable refusal input = (r : RequestText) × IsFormed input r × HasDigits r × IsNoTable refusal r

-- why an input is no request
abbrev pub IsNoRequest : RequestError → Bytes → Type 0
IsNoRequest NoMemory input = ⊥
IsNoRequest InputTooLong input = IsTooLong input
IsNoRequest BadJson input = IsNoJson input
IsNoRequest (BadRequest place) input = IsMisformed place input
IsNoRequest (BadHex side) input = HasBadHex side input
IsNoRequest (BadTable refusal) input = HasBadTable refusal input
