-- The lines that a run writes: of each row, and of what was counted.
use Rattle.std.specs.Prelude.{ℕ, ◌/◌, ◌%◌, List, [], ◌++◌, codes, decimal, Option, Some, None}
use Rattle.std.specs.List.{flat_map}
use Rattle.vx_dtype.specs.Types.{Bytes}
use Rattle.vx_dtype.specs.Values.{Val}
use Rattle.vx_display.specs.ValueTexts.{value_text}

-- a row as a line
abbrev pub row_line : Val → Bytes
row_line row = value_text row ++ codes "\n"

-- rows, each as a line, and nothing else
abbrev pub row_lines : List Val → Bytes
row_lines rows = flat_map row_line rows

-- what is counted of a run: its blocks and how many of them were skipped, the table's columns and how many of them were read, and the rows
pub record Counts : Type 0 where
  pub blocks : ℕ
  pub skipped : ℕ
  pub columns : ℕ
  pub columns_read : ℕ
  pub rows : ℕ

-- how many seconds so many milliseconds are, with three digits behind the point
abbrev pub seconds_text : ℕ → Bytes
seconds_text ms =
    codes ", seconds " ++ (decimal (ms / 1000) ++ (codes "." ++ (decimal (ms / 100 % 10) ++ (decimal (ms / 10 % 10) ++ decimal (ms % 10)))))

-- so where they are known, else nothing
abbrev pub seconds_known : Option ℕ → Bytes
seconds_known None = []
seconds_known (Some ms) = seconds_text ms

-- the line of what was counted, and of how many milliseconds a run took, where that is known
abbrev pub counts_line : Counts → Option ℕ → Bytes
counts_line c milliseconds =
    codes "blocks skipped " ++ (decimal c.skipped ++ (codes " of " ++ (decimal c.blocks ++ (codes ", columns read " ++ (decimal c.columns_read
    ++ (codes " of " ++ (decimal c.columns ++ (codes ", rows " ++ (decimal c.rows ++ (seconds_known milliseconds ++ codes "\n"))))))))))
