-- An explanation as lines of text.
use Rattle.std.specs.Prelude.{ℕ, Bool, true, false, cond, List, [], ◌∷◌, ◌++◌, codes, decimal, length, Option, Some, None, option_map}
use Rattle.std.specs.List.{flat_map}
use Rattle.vx_dtype.specs.Types.{Bytes}
use Rattle.vx_dtype.specs.Values.{Typed}
use Rattle.vx_expr.specs.Trees.{Tree}
use Rattle.vx_expr.specs.CompactTexts.{compact_text}
use Rattle.vx_text.specs.Writing.{is_writable, query_text}
use Rattle.vx_laws_listing.specs.ListingTexts.{known_value, scalar_json}
use Rattle.vx_laws_explaining.specs.Explained.{Decider, Explained, UsedColumn, number_skipped, read_names}

-- the query that names an expression, where there is one
abbrev pub query_named : Tree → Option Bytes
query_named e = cond (is_writable e) (Some (query_text e)) None

-- a text, or `-` where there is none
abbrev pub text_or_dash : Option Bytes → Bytes
text_or_dash None = codes "-"
text_or_dash (Some text) = text

-- the line of an expression behind a word, and the line of its query
abbrev pub expression_lines : Bytes → Tree → Bytes
expression_lines word e = word ++ (compact_text e ++ (codes "\nquery " ++ (text_or_dash (query_named e) ++ codes "\n")))

-- the names of the statistics that decide, each behind a space, or `-` where there are none
abbrev pub names_shown : List Decider → Bytes
names_shown [] = codes " -"
names_shown (d ∷ ds) = flat_map (λ x. codes " " ++ x.name) (d ∷ ds)

-- the lines of the pruning expression and of the statistics that decide
abbrev pub pruning_lines : Option Tree → List Decider → Bytes
pruning_lines pruning deciders = codes "pruning " ++ (text_or_dash (option_map compact_text pruning) ++ (codes "\nstatistics" ++ (names_shown deciders ++ codes "\n")))

-- so many of so many, behind a word
abbrev pub number_line : Bytes → ℕ → ℕ → Bytes
number_line word some all = word ++ (decimal some ++ (codes " of " ++ (decimal all ++ codes "\n")))

-- the lines of how many columns are read, and of how many blocks are skipped
abbrev pub number_lines : List UsedColumn → List Bool → List ℕ → Bytes
number_lines columns skipped lengths =
    number_line (codes "columns read ") (length (read_names columns)) (length columns)
    ++ number_line (codes "blocks skipped ") (number_skipped skipped) (length lengths)

-- the lines before those of the blocks
abbrev pub text_front : Explained → Bytes
text_front x =
    expression_lines (codes "filter ") x.filter ++ (pruning_lines x.pruning x.deciders ++ (expression_lines (codes "projection ") x.projection
    ++ number_lines x.columns x.skipped x.lengths))

-- the value of a statistic in a block, or a text where it isn't known
abbrev pub value_or : Bytes → Option Typed → Bytes
value_or unknown None = unknown
value_or unknown (Some s) = scalar_json s

-- the name and the value of a statistic in a block, each behind a space
abbrev pub bound_shown : ℕ → Decider → Bytes
bound_shown block d = codes " " ++ (d.name ++ (codes " " ++ value_or (codes "unknown") (known_value block d.statistic)))

-- whether a block is skipped or read
abbrev pub state_text : Bool → Bytes
state_text true = codes "skipped"
state_text false = codes "read"

-- the line of a block: its number, whether it is skipped, its rows, and the values of the statistics that decide
abbrev pub block_shown : List Decider → ℕ → ℕ → Bool → Bytes
block_shown deciders block rows skipped =
    codes "block " ++ (decimal block ++ (codes " " ++ (state_text skipped ++ (codes " rows " ++ (decimal rows
    ++ (flat_map (bound_shown block) deciders ++ codes "\n"))))))
