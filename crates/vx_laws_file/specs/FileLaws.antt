-- What block files are: one content for bytes, one table for a file, each refusal apart from the others, and what their ranges say.
use Rattle.std.specs.Prelude.{◌≡◌, ◌⊎◌, ℕ, ◌<◌, true, List, ◌++◌, map, length, take, drop, get_or, replicate, Some, None, option_map}
use Rattle.std.specs.List.{list_all, slice_get}
use Rattle.vx_dtype.specs.Types.{Bytes, Ty}
use Rattle.vx_dtype.specs.Values.{Val}
use Rattle.vx_dtype.specs.Structs.{field_of}
use Rattle.vx_column.specs.Columns.{Column}
use Rattle.vx_semantics.specs.Tables.{Zones}
use Rattle.vx_zones.specs.declared.errors.ZoneError.{ZoneError}
use Rattle.vx_zones.specs.declared.errors.ZoneError.TheVariants.{DuplicateName, DuplicateStat}
use Rattle.vx_zones.specs.Zoning.{broken_rule}
use Rattle.vx_tables.specs.Blocks.{block_fits, table_refusal}
use Rattle.vx_laws_file.specs.FileForms.{Header, FileContent, header_of, content_of, file_bytes}
use Rattle.vx_laws_file.specs.Opening.{HasHeader, IsOpened, FileRefusal, bad_zones, IsRefusedFile, all_lengths, content_with, range_place}
use Rattle.vx_laws_file.specs.FileReading.{opened_of, IsFileAnswer}
use Rattle.vx_laws_file.specs.Ranges.{SpellsRange, HasRange, IsReadAs, IsDamaged}
use Rattle.vx_laws_file.specs.HeldTables.{filler, range_values, held_values, held_blocks, held_table}
use Rattle.vx_laws_file.specs.Lengths.{IsShortTable, HasFile}

-- one header stands at the front of bytes, and one rest behind it
abbrev pub OneHeader : Type 0
OneHeader = (bytes : Bytes) (g h : Header) (x y : Bytes) → HasHeader bytes g x → HasHeader bytes h y → (g ≡ h) × (x ≡ y)

-- a file holds one content
abbrev pub OneContent : Type 0
OneContent = (bytes : Bytes) (f g : FileContent) → IsOpened bytes f → IsOpened bytes g → f ≡ g

-- no file begins another one: where two files begin the same bytes, they are the same file
abbrev pub NoFileBeginsAnother : Type 0
NoFileBeginsAnother = (a b : Bytes) (f g : FileContent) (x y : Bytes) → IsOpened a f → IsOpened b g → a ++ x ≡ b ++ y → (f ≡ g) × (x ≡ y)

-- a file spells one table, with its statistics
abbrev pub OneTable : Type 0
OneTable =
    (zones others : Zones) (blocks more : List (List Column)) → HasFile zones blocks → HasFile others more
    → file_bytes zones blocks ≡ file_bytes others more → (zones ≡ others) × (blocks ≡ more)

-- a range spells one list of values, where it is to spell so many
abbrev pub OneRange : Type 0
OneRange = (t : Ty) (n : ℕ) (range : Bytes) (vs ws : List Val) → SpellsRange t n range vs → SpellsRange t n range ws → vs ≡ ws

-- what is written is opened, and holds the table that was written, with no pair damaged
abbrev pub WrittenIsOpened : Type 0
WrittenIsOpened = (zones : Zones) (blocks : List (List Column)) → HasFile zones blocks → IsOpened (file_bytes zones blocks) (content_of zones blocks)

abbrev pub WrittenIsHeld : Type 0
WrittenIsHeld = (zones : Zones) (blocks : List (List Column)) → HasFile zones blocks → held_blocks (content_of zones blocks) ≡ blocks

abbrev pub WrittenIsWhole : Type 0
WrittenIsWhole =
    (zones : Zones) (blocks : List (List Column)) (block : ℕ) (name : Bytes) → HasFile zones blocks → ¬ (IsDamaged (content_of zones blocks) block name)

-- bytes are refused for one reason, and not where they are opened
abbrev pub OneRefusal : Type 0
OneRefusal = (bytes : Bytes) (q r : FileRefusal) → IsRefusedFile bytes q → IsRefusedFile bytes r → q ≡ r

abbrev pub OpenedIsNotRefused : Type 0
OpenedIsNotRefused = (bytes : Bytes) (content : FileContent) (r : FileRefusal) → IsOpened bytes content → ¬ (IsRefusedFile bytes r)

-- each is a byte
abbrev pub AreBytes : Bytes → Type 0
AreBytes bytes = (i : ℕ) → get_or bytes i 0 < 256

-- whatever bytes are opened or refused, and which is computed
abbrev pub AnswerIsComputed : Type 0
AnswerIsComputed = (bytes : Bytes) → AreBytes bytes → IsFileAnswer bytes (opened_of bytes)

-- the rules that the statistics of a header can break are on names and on statistics that stand twice
abbrev pub RefusedZonesHaveDoubles : Type 0
RefusedZonesHaveDoubles = (bytes : Bytes) (e : ZoneError) → IsRefusedFile bytes (bad_zones e) → (e ≡ DuplicateName) ⊎ (e ≡ DuplicateStat)

-- bytes with a header whose statistics break no rule, and with as many bytes behind it as its ranges have, are opened: they are cut into these ranges
abbrev pub HeaderAndEndOpen : Type 0
HeaderAndEndOpen =
    (bytes : Bytes) (h : Header) (rest : Bytes) → HasHeader bytes h rest → broken_rule h.zones ≡ None → length rest ≡ all_lengths h
    → IsOpened bytes (content_with h rest)

-- a range stands at its place
abbrev pub RangeStandsAtItsPlace : Type 0
RangeStandsAtItsPlace =
    (bytes : Bytes) (content : FileContent) (block column : ℕ) (ranges : List Bytes) (range : Bytes) → IsOpened bytes content
    → slice_get content.ranges block ≡ Some ranges → slice_get ranges column ≡ Some range
    → take (length range) (drop (range_place (header_of content) block column) bytes) ≡ range

-- the values that are read of a range are those that it spells, and where none are read it spells none
abbrev pub RangeValuesAreSpelled : Type 0
RangeValuesAreSpelled =
    (t : Ty) (n : ℕ) (range : Bytes) (values : List Val) → AreBytes range → range_values t n range ≡ Some values → SpellsRange t n range values

abbrev pub SpelledValuesAreRead : Type 0
SpelledValuesAreRead =
    (t : Ty) (n : ℕ) (range : Bytes) (values : List Val) → SpellsRange t n range values → range_values t n range ≡ Some values

-- a pair isn't both read and damaged, and is read as one list of values
abbrev pub ReadIsNotDamaged : Type 0
ReadIsNotDamaged =
    (content : FileContent) (block : ℕ) (name : Bytes) (values : List Val) → IsReadAs content block name values → ¬ (IsDamaged content block name)

abbrev pub ReadAsOne : Type 0
ReadAsOne =
    (content : FileContent) (block : ℕ) (name : Bytes) (vs ws : List Val) → IsReadAs content block name vs → IsReadAs content block name ws → vs ≡ ws

-- the blocks that a file holds are a table with its statistics, and each value is one of its type
abbrev pub HeldIsTable : Type 0
HeldIsTable =
    (bytes : Bytes) (content : FileContent) → AreBytes bytes → IsOpened bytes content
    → (table_refusal content.zones (held_blocks content) ≡ None) × (list_all block_fits (held_blocks content) ≡ true)

-- it has the values of each pair: those that are read, and fillers where the pair is damaged
abbrev pub HeldIsRead : Type 0
HeldIsRead =
    (bytes : Bytes) (content : FileContent) (block : ℕ) (name : Bytes) (t : Ty) (n : ℕ) (range : Bytes) → IsOpened bytes content
    → HasRange content block name t n range
    → option_map (map (field_of name)) (slice_get (held_table content).blocks block) ≡ Some (held_values t n range)

abbrev pub HeldValuesAreRead : Type 0
HeldValuesAreRead = (t : Ty) (n : ℕ) (range : Bytes) (values : List Val) → SpellsRange t n range values → held_values t n range ≡ values

abbrev pub DamagedValuesAreFillers : Type 0
DamagedValuesAreFillers =
    (t : Ty) (n : ℕ) (range : Bytes) → AreBytes range → ((values : List Val) → ¬ (SpellsRange t n range values))
    → held_values t n range ≡ replicate n (filler t)

-- a file with no pair damaged is the file of the table that it holds
abbrev pub WholeIsFile : Type 0
WholeIsFile =
    (bytes : Bytes) (content : FileContent) → AreBytes bytes → IsOpened bytes content → ((block : ℕ) (name : Bytes) → ¬ (IsDamaged content block name))
    → HasFile content.zones (held_blocks content) × (bytes ≡ file_bytes content.zones (held_blocks content))

-- nothing in a table that has a file is too long
abbrev pub FilesAreShort : Type 0
FilesAreShort = (zones : Zones) (blocks : List (List Column)) → HasFile zones blocks → IsShortTable zones blocks
