-- The file of a table is made of its parts, and is short where each part is.
use Rattle.std.proofs.Common.{◌≡◌, refl, sym, ap, ◌∙◌, subst, append_assoc, ◌≤◌, true, cond, not, List, [], ◌∷◌, ◌++◌, map, length, sum, None, Some}
use Rattle.std.specs.List.{AllByRecursion, list_all, flat_map, concat}
use Rattle.vx_dtype.specs.Types.{Bytes}
use Rattle.vx_column.specs.Columns.{Column}
use Rattle.vx_semantics.specs.Tables.{Zones, row_type}
use Rattle.vx_zones.specs.Zoning.{broken_rule, values_fit}
use Rattle.vx_tables.specs.Blocks.{block_fits, have_lengths, have_types, table_refusal}
use Rattle.vx_tables.specs.declared.errors.TableError.TheVariants as refusals
use Rattle.vx_wire_bytes.specs.Numbers.{number_bytes}
use Rattle.vx_wire_bytes.specs.TypeForms.{type_bytes}
use Rattle.vx_wire_bytes.specs.Fields.{IsNumber, IsShort, IsText}
use Rattle.vx_laws_file.specs.FileForms.{counted_bytes, statistic_bytes, column_bytes, lengths_bytes, lengths_of, ranges_bytes, content_of, header_of, header_bytes, file_bytes, most_rows}
use Rattle.vx_laws_file.specs.Lengths.{ColumnTextsAre, HasFile, IsShortTable}
use Rattle.vx_file_bytes.specs.declared.errors.WriteFileError.{WriteFileError}
use Rattle.vx_file_bytes.specs.declared.errors.WriteFileError.TheVariants.{NoMemory, WrongLength, WrongType, TooLong}
use Rattle.vx_file_bytes.specs.WritingAnswers.{IsUnwritten}
use Rattle.vx_file_bytes.specs.WritingParts.{IsTooLong, BlockIs, column_number, block_bytes, block_numbers, ZonesTextsAre, header_front, joined_bytes}

-- ---- the bytes of ranges and of their lengths

columns_bytes : (cs : List Column) → block_bytes cs ≡ concat (map column_bytes cs)
columns_bytes [] = refl
columns_bytes (c ∷ cs) = ap (λ (b : Bytes). column_bytes c ++ b) (columns_bytes cs)

columns_numbers : (cs : List Column) → block_numbers cs ≡ lengths_bytes (lengths_of (map column_bytes cs))
columns_numbers [] = refl
columns_numbers (c ∷ cs) = ap (λ (b : Bytes). column_number c ++ b) (columns_numbers cs)

blocks_bytes : (bs : List (List Column)) → flat_map block_bytes bs ≡ ranges_bytes (map (λ cs. map column_bytes cs) bs)
blocks_bytes [] = refl
blocks_bytes (cs ∷ bs) =
    let here = columns_bytes cs in
    let rest = blocks_bytes bs in
    λ i. here i ++ rest i

blocks_numbers : (bs : List (List Column)) → flat_map block_numbers bs ≡ flat_map lengths_bytes (map lengths_of (map (λ cs. map column_bytes cs) bs))
blocks_numbers [] = refl
blocks_numbers (cs ∷ bs) =
    let here = columns_numbers cs in
    let rest = blocks_numbers bs in
    λ i. here i ++ rest i

-- the header of a table's file
pub header_is : (zones : Zones) (blocks : List (List Column)) (header : Bytes) → header ≡ header_front zones ++ flat_map block_numbers blocks
    → header ≡ header_bytes (header_of (content_of zones blocks))
header_is zones blocks header e =
    let rows = type_bytes (row_type zones.columns) in
    let lengths = counted_bytes number_bytes zones.lengths in
    let stats = counted_bytes statistic_bytes zones.stats in
    let numbers = flat_map block_numbers blocks in
    e ∙ append_assoc rows (lengths ++ stats) numbers ∙ ap (λ (b : Bytes). rows ++ b) (append_assoc lengths stats numbers)
    ∙ ap (λ (b : Bytes). rows ++ (lengths ++ (stats ++ b))) (blocks_numbers blocks)

-- the file of a table
pub file_is : (zones : Zones) (blocks : List (List Column)) (header ranges bytes : Bytes) → header ≡ header_front zones ++ flat_map block_numbers blocks
    → ranges ≡ flat_map block_bytes blocks → bytes ≡ joined_bytes header ranges → bytes ≡ file_bytes zones blocks
file_is zones blocks header ranges bytes h r e =
    let head = header_is zones blocks header h in
    let tail = r ∙ blocks_bytes blocks in
    e ∙ λ i. joined_bytes (head i) (tail i)

-- ---- what is short

columns_parts : (Given : Bytes → Type 0) (cs : List Column) → BlockIs Given cs → AllByRecursion (ColumnTextsAre Given) cs × AllByRecursion IsShort (map column_bytes cs)
columns_parts Given [] h = (tt, tt)
columns_parts Given (c ∷ cs) h = let rest = columns_parts Given cs h.1 in ((h.0.0, rest.0), (h.0.1, rest.1))

columns_whole : (Given : Bytes → Type 0) (cs : List Column) → AllByRecursion (ColumnTextsAre Given) cs → AllByRecursion IsShort (map column_bytes cs) → BlockIs Given cs
columns_whole Given [] h k = tt
columns_whole Given (c ∷ cs) h k = ((h.0, k.0), columns_whole Given cs h.1 k.1)

blocks_parts : (Given : Bytes → Type 0) (bs : List (List Column)) → AllByRecursion (BlockIs Given) bs
    → AllByRecursion (λ cs. AllByRecursion (ColumnTextsAre Given) cs) bs × AllByRecursion (λ rs. AllByRecursion IsShort rs) (map (λ cs. map column_bytes cs) bs)
blocks_parts Given [] h = (tt, tt)
blocks_parts Given (cs ∷ bs) h =
    let here = columns_parts Given cs h.0 in
    let rest = blocks_parts Given bs h.1 in
    ((here.0, rest.0), (here.1, rest.1))

blocks_whole : (Given : Bytes → Type 0) (bs : List (List Column)) → AllByRecursion (λ cs. AllByRecursion (ColumnTextsAre Given) cs) bs
    → AllByRecursion (λ rs. AllByRecursion IsShort rs) (map (λ cs. map column_bytes cs) bs) → AllByRecursion (BlockIs Given) bs
blocks_whole Given [] h k = tt
blocks_whole Given (cs ∷ bs) h k = (columns_whole Given cs h.0 k.0, blocks_whole Given bs h.1 k.1)

pub short_blocks : (zones : Zones) (blocks : List (List Column)) → IsShortTable zones blocks → AllByRecursion (BlockIs IsShort) blocks
short_blocks zones blocks p = blocks_whole IsShort blocks p.values p.ranges

pub short_header : (zones : Zones) (blocks : List (List Column)) (header : Bytes) → header ≡ header_front zones ++ flat_map block_numbers blocks → IsShortTable zones blocks → IsShort header
short_header zones blocks header e p = subst IsShort (sym (header_is zones blocks header e)) p.header

-- ---- a table that has a file

pub no_refusal : (zones : Zones) (blocks : List (List Column)) → have_lengths zones blocks ≡ true → have_types zones blocks ≡ true → table_refusal zones blocks ≡ None
no_refusal zones blocks l t = λ i. cond (not (l i)) (Some refusals.WrongLength) (cond (not (t i)) (Some refusals.WrongType) None)

pub has_file : (zones : Zones) (blocks : List (List Column)) (header : Bytes) → have_lengths zones blocks ≡ true → have_types zones blocks ≡ true → list_all block_fits blocks ≡ true
    → broken_rule zones ≡ None → values_fit zones ≡ true → IsNumber (length zones.lengths) → sum zones.lengths ≤ most_rows
    → AllByRecursion (BlockIs IsText) blocks → ZonesTextsAre IsText zones → header ≡ header_front zones ++ flat_map block_numbers blocks → IsShort header → HasFile zones blocks
has_file zones blocks header l t f rules fit few rows bs zs e short =
    let parts = blocks_parts IsText blocks bs in
    record {
      rules = rules;
      statistics_fit = fit;
      table = no_refusal zones blocks l t;
      cells_fit = f;
      parts = record {
        names = zs.0;
        number_of_blocks = few;
        statistics = zs.1;
        values = parts.0;
        rows = rows;
        ranges = parts.1;
        header = subst IsShort (header_is zones blocks header e) short;
      };
    }

-- a part that is too long is one of the table
pub unwritten : (zones : Zones) (blocks : List (List Column)) (Q : Type 0) (e : WriteFileError) → table_refusal zones blocks ≡ None → (IsShortTable zones blocks → Q)
    → IsTooLong Q e → IsUnwritten zones blocks e
unwritten zones blocks Q NoMemory t f h = tt
unwritten zones blocks Q TooLong t f h = (t, λ p. h (f p))
unwritten zones blocks Q WrongLength t f h = absurd h
unwritten zones blocks Q WrongType t f h = absurd h
