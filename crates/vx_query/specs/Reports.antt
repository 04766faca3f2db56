-- The text of a report, and bytes in a line.
use Rattle.std.specs.Prelude.{ℕ, List, ◌++◌, length, map, codes, decimal}
use Rattle.std.specs.List.{flat_map}
use Rattle.hex.specs.Hex.{encode_lower}
use Rattle.vx_dtype.specs.Texts.{quoted_text}
use Rattle.vx_dtype.specs.Types.{Bytes}
use Rattle.vx_display.specs.Spaced.{spaced}

-- a text as a line
abbrev pub line : Bytes → Bytes
line text = text ++ codes "\n"

-- bytes as a line: two hexadecimal digits for each
abbrev pub hex_line : Bytes → Bytes
hex_line bytes = line (encode_lower bytes)

-- the report of the texts of rows, the numbers of the blocks that were skipped, the names of the columns that were read, and the number of reads
abbrev pub report_text : List Bytes → List ℕ → List Bytes → ℕ → Bytes
report_text rows skipped names reads =
    codes "rows " ++ (decimal (length rows) ++ (codes "\n" ++ (flat_map line rows
    ++ (codes "skipped " ++ (spaced (map decimal skipped) ++ (codes "\n"
    ++ (codes "columns " ++ (spaced (map quoted_text names) ++ (codes "\n"
    ++ (codes "reads " ++ (decimal reads ++ codes "\n")))))))))))
