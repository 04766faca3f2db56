-- An explanation as a picture, a document of SVG: a row a block, in it a cell a column, whose colour tells what the column is read for.
use Rattle.std.specs.Prelude.{ℕ, suc, ◌+◌, ◌*◌, ◌==◌, nat_lt, Bool, true, false, cond, List, [], ◌∷◌, ◌++◌, codes, decimal, length}
use Rattle.std.specs.List.{flat_map}
use Rattle.vx_dtype.specs.Types.{Bytes}
use Rattle.vx_laws_explaining.specs.Explained.{Decider, Explained, Usage, for_filter, for_rows, for_nothing, UsedColumn}
use Rattle.vx_laws_explaining.specs.ExplainedTexts.{bound_shown, state_text}

-- a byte of a text in a document: what would end the text or begin a mark is escaped, and `?` stands for a control character
abbrev pub marked_byte : ℕ → Bytes
marked_byte b =
    cond (b == 38) (codes "&amp;")
    (cond (b == 60) (codes "&lt;")
    (cond (b == 62) (codes "&gt;")
    (cond (b == 34) (codes "&quot;")
    (cond (nat_lt b 32) (codes "?") (b ∷ [])))))

unfoldable pub marked_text : Bytes → Bytes
marked_text s = flat_map marked_byte s

-- where the cells of a column begin from the left, and those of a block from the top
abbrev pub left_of : ℕ → ℕ
left_of column = 24 * column + 72

abbrev pub top_of : ℕ → ℕ
top_of block = 20 * block + 176

-- the mark that opens a document of so many columns, statistics that decide, and blocks
abbrev pub document_front : ℕ → ℕ → ℕ → Bytes
document_front columns deciders blocks =
    codes "<svg xmlns=\"http://www.w3.org/2000/svg\" width=\"" ++ (decimal (24 * columns + (320 * deciders + 320))
    ++ (codes "\" height=\"" ++ (decimal (20 * blocks + 184) ++ codes "\" font-family=\"monospace\" font-size=\"12\">\n")))

-- what the colours mean
unfoldable pub legend : Bytes
legend =
    codes "<rect x=\"8\" y=\"8\" width=\"22\" height=\"16\" fill=\"#b0b0b0\"/><text x=\"38\" y=\"21\">block skipped</text>\n"
    ++ (codes "<rect x=\"8\" y=\"28\" width=\"22\" height=\"16\" fill=\"#1f6fb4\"/><text x=\"38\" y=\"41\">read for the filter or the order</text>\n"
    ++ (codes "<rect x=\"8\" y=\"48\" width=\"22\" height=\"16\" fill=\"#e6931e\"/><text x=\"38\" y=\"61\">read for the rows alone</text>\n"
    ++ codes "<rect x=\"8\" y=\"68\" width=\"22\" height=\"16\" fill=\"#eeeeee\"/><text x=\"38\" y=\"81\">not asked</text>\n"))

-- the name of a column over its cells
abbrev pub heading : ℕ → Bytes → Bytes
heading column name =
    codes "<text transform=\"translate(" ++ (decimal (left_of column) ++ (codes ",168) rotate(-45)\">" ++ (marked_text name ++ codes "</text>\n")))

-- the names of columns, numbered from this one on
abbrev pub headings : ℕ → List UsedColumn → Bytes
headings column [] = []
headings column (c ∷ cs) = heading column c.name ++ headings (suc column) cs

-- what stands before the rows of the blocks
abbrev pub picture_front : Explained → Bytes
picture_front x = document_front (length x.columns) (length x.deciders) (length x.lengths) ++ (legend ++ headings 0 x.columns)

-- the colour of a cell, by whether its block is skipped and by what its column is read for
abbrev pub colour_of : Bool → Usage → Bytes
colour_of skipped for_nothing = codes "#eeeeee"
colour_of true _ = codes "#b0b0b0"
colour_of false for_filter = codes "#1f6fb4"
colour_of false for_rows = codes "#e6931e"

-- the cell of a block and a column
abbrev pub cell : ℕ → Bool → ℕ → Usage → Bytes
cell block skipped column usage =
    codes "<rect x=\"" ++ (decimal (left_of column) ++ (codes "\" y=\"" ++ (decimal (top_of block) ++ (codes "\" width=\"22\" height=\"16\" fill=\""
    ++ (colour_of skipped usage ++ codes "\"/>")))))

-- the cells of a block, of columns that are numbered from this one on
abbrev pub cells : ℕ → Bool → ℕ → List UsedColumn → Bytes
cells block skipped column [] = []
cells block skipped column (c ∷ cs) = cell block skipped column c.usage ++ cells block skipped (suc column) cs

-- a text in the row of a block, so far from the left
abbrev pub row_text : ℕ → ℕ → Bytes → Bytes
row_text left block text =
    codes "<text x=\"" ++ (decimal left ++ (codes "\" y=\"" ++ (decimal (top_of block + 13) ++ (codes "\">" ++ (text ++ codes "</text>")))))

-- the title of the row of a block
abbrev pub row_title : ℕ → ℕ → Bool → Bytes
row_title block rows skipped =
    codes "<g><title>block " ++ (decimal block ++ (codes ": " ++ (state_text skipped ++ (codes ", rows " ++ (decimal rows ++ codes "</title>")))))

-- the number of a block
abbrev pub number_text : ℕ → Bytes
number_text block = decimal block

-- the values of the statistics that decide in the row of a block of so many columns
abbrev pub row_bounds : ℕ → List Decider → ℕ → Bytes
row_bounds columns deciders block = row_text (left_of columns) block (marked_text (flat_map (bound_shown block) deciders))

-- the row of a block: its title, its number, its cells, and the values of the statistics that decide
abbrev pub block_pictured : List UsedColumn → List Decider → ℕ → ℕ → Bool → Bytes
block_pictured columns deciders block rows skipped =
    row_title block rows skipped ++ (row_text 8 block (number_text block) ++ (cells block skipped 0 columns
    ++ (row_bounds (length columns) deciders block ++ codes "</g>\n")))
