-- An explanation as an object of JSON in a line, without spaces.
use Rattle.std.specs.Prelude.{ℕ, nat_eq, cond, Bool, true, false, List, [], ◌++◌, codes, decimal, length, map, Option, Some, None, option_map}
use Rattle.std.specs.List.{join_by}
use Rattle.vx_dtype.specs.Texts.{quoted_text}
use Rattle.vx_dtype.specs.Types.{Bytes}
use Rattle.vx_expr.specs.Trees.{Tree}
use Rattle.vx_expr.specs.CompactTexts.{compact_text}
use Rattle.vx_laws_listing.specs.ListingTexts.{known_value}
use Rattle.vx_laws_explaining.specs.Explained.{Decider, Explained, UsedColumn, number_skipped, read_names}
use Rattle.vx_laws_explaining.specs.ExplainedTexts.{query_named, value_or}

-- texts with a comma between any two
unfoldable pub commas : List Bytes → Bytes
commas texts = join_by (λ t. t) (codes ",") texts

-- a text within quotes, or null where there is none
abbrev pub quoted_or_null : Option Bytes → Bytes
quoted_or_null None = codes "null"
quoted_or_null (Some text) = quoted_text text

-- an expression: an object of its compact text and its query
abbrev pub expression_json : Tree → Bytes
expression_json e = codes "{\"expression\":" ++ (quoted_text (compact_text e) ++ (codes ",\"query\":" ++ (quoted_or_null (query_named e) ++ codes "}")))

-- the names of the statistics that decide
abbrev pub deciders_json : List Decider → Bytes
deciders_json deciders = commas (map (λ d. d.name) deciders)

-- the members of the filter and of the projection
abbrev pub expressions_json : Tree → Tree → Bytes
expressions_json filter_expr projection =
    codes "{\"filter\":" ++ (expression_json filter_expr ++ (codes ",\"projection\":" ++ expression_json projection))

-- the members of the pruning expression and of the statistics that decide
abbrev pub pruning_json : Option Tree → List Decider → Bytes
pruning_json pruning deciders =
    codes ",\"pruning\":" ++ (quoted_or_null (option_map compact_text pruning) ++ (codes ",\"statistics\":[" ++ deciders_json deciders))

-- the members of the columns that are read, and of how many columns there are
abbrev pub columns_json : List UsedColumn → Bytes
columns_json columns =
    codes "],\"columns\":{\"read\":[" ++ (commas (map quoted_text (read_names columns)) ++ (codes "],\"all\":" ++ decimal (length columns)))

-- the members of how many blocks there are, and how many are skipped
abbrev pub blocks_json : List Bool → List ℕ → Bytes
blocks_json skipped lengths =
    codes "},\"blocks\":{\"all\":" ++ (decimal (length lengths) ++ (codes ",\"skipped\":" ++ (decimal (number_skipped skipped) ++ codes "},\"each\":[")))

-- what stands before the objects of the blocks
abbrev pub json_front : Explained → Bytes
json_front x =
    expressions_json x.filter x.projection ++ (pruning_json x.pruning x.deciders ++ (columns_json x.columns ++ blocks_json x.skipped x.lengths))

-- the name and the value of a statistic in a block, null where it isn't known
abbrev pub bound_json : ℕ → Decider → Bytes
bound_json block d = d.name ++ (codes ":" ++ value_or (codes "null") (known_value block d.statistic))

abbrev pub truth_json : Bool → Bytes
truth_json true = codes "true"
truth_json false = codes "false"

-- what stands before the object of a block: a comma before each but the first
abbrev pub comma_before : ℕ → Bytes
comma_before block = cond (nat_eq block 0) [] (codes ",")

-- the object of a block: its number, its rows, whether it is skipped, and the values of the statistics that decide
abbrev pub block_json : List Decider → ℕ → ℕ → Bool → Bytes
block_json deciders block rows skipped =
    comma_before block ++ (codes "{\"block\":" ++ (decimal block ++ (codes ",\"rows\":" ++ (decimal rows ++ (codes ",\"skipped\":" ++ (truth_json skipped
    ++ (codes ",\"bounds\":{" ++ (commas (map (bound_json block) deciders) ++ codes "}}"))))))))
