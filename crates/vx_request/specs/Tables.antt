-- A table as JSON, by the rules of a request: an object of its columns, its blocks and, where there are any, its statistics. One function of the bytes, with
-- the first refusal in the order of its places.
use Rattle.std.specs.Prelude.{nat_le, List, [], ◌∷◌, length, codes, Option, Some, None, Result, Ok, Err}
use Rattle.std.specs.Option.{option_or}
use Rattle.serde_json.specs.Data.{Data}
use Rattle.vx_dtype.specs.Types.{Bytes, Fields}
use Rattle.vx_column.specs.Columns.{Column}
use Rattle.vx_semantics.specs.Tables.{Zones}
use Rattle.vx_request.specs.Objects.{object_of}
use Rattle.vx_request.specs.RequestMembers.{BlockText, StatText, columns_in, blocks_in, stats_in}
use Rattle.vx_request.specs.Requests.{◌>>=◌, ensured, json_in, at_place, most_bytes, zones_of, sound_zones, block_columns}
use Rattle.vx_request.specs.declared.errors.Place.TheVariants.{Top, Columns, Blocks, Stats}
use Rattle.vx_request.specs.declared.errors.RequestError.{RequestError}
use Rattle.vx_request.specs.declared.errors.RequestError.TheVariants.{InputTooLong, BadRequest}

-- a table: its zones, and the columns of each block
pub record ToldTable : Type 0 where
  pub zones : Zones
  pub blocks : List (List Column)

-- the table of zones and blocks
abbrev pub told_with : Zones → Fields → List BlockText → Result ToldTable RequestError
told_with zones columns blocks = do
  made ← block_columns columns blocks
  Ok (record { zones = zones; blocks = made })

-- the table of columns, blocks and statistics: its zones break no rule, and its cells are those of the columns
abbrev pub told_in : Fields → List BlockText → List StatText → Result ToldTable RequestError
told_in columns blocks stats = do
  zones ← sound_zones (zones_of columns blocks stats)
  told_with zones columns blocks

-- the statistics at their place; none where there is no such place
abbrev pub stats_at : Option Data → Result (List StatText) RequestError
stats_at None = Ok []
stats_at (Some stats) = at_place Stats (stats_in stats)

-- the table of the values at its places, which are read one after another
abbrev pub places_told : Data → Data → Option Data → Result ToldTable RequestError
places_told columns blocks stats = do
  cs ← at_place Columns (columns_in columns)
  bs ← at_place Blocks (blocks_in blocks)
  ss ← stats_at stats
  told_in cs bs ss

-- the table of its members, with statistics or without
abbrev pub members_told : List Data → Result ToldTable RequestError
members_told (columns ∷ blocks ∷ []) = places_told columns blocks None
members_told (columns ∷ blocks ∷ stats ∷ []) = places_told columns blocks (Some stats)
members_told _ = Err (BadRequest Top)

abbrev pub names_without_stats : List Bytes
names_without_stats = codes "columns" ∷ codes "blocks" ∷ []

abbrev pub names_with_stats : List Bytes
names_with_stats = codes "columns" ∷ codes "blocks" ∷ codes "stats" ∷ []

-- the table that a value tells: an object of exactly these members
abbrev pub told_of : Data → Result ToldTable RequestError
told_of d = do
  members ← at_place Top (option_or (object_of names_without_stats d) (object_of names_with_stats d))
  members_told members

-- the table that an input tells, or the first refusal: of its length, of its text, of its places in order, of its table
unfoldable pub told_table : Bytes → Result ToldTable RequestError
told_table input = do
  within ← ensured (nat_le (length input) most_bytes) InputTooLong
  d ← json_in input
  told_of d
