-- The texts that tell the forms and the version, and how they are written.
use Rattle.std.specs.Prelude.{◌≡◌, ◌⊎◌, ℕ, ◌≤◌, ◌++◌, codes}
use Rattle.vx_dtype.specs.Types.{Bytes}
use Rattle.vx_io.specs.Counts.{one_more}
use Rattle.vx_io.specs.Ends.{Added, AddedPrefix}
use Rattle.vx_laws_shell.specs.Running.{End}

-- a text was written whole, or a write failed and first bytes of it were
abbrev pub IsTold : Bytes → End → End → ℕ → Type 0
IsTold text before after status =
    ((status ≡ 0) × Added before.bytes after.bytes text)
    ⊎ ((status ≡ 7) × AddedPrefix before.bytes after.bytes text × (one_more before.faults ≤ after.faults))

-- the version
abbrev pub version_text : Bytes
version_text = codes "vx 0.1.0\n"

-- all forms of words
abbrev pub help_text : Bytes
help_text =
    codes "vx: a proved scan over tables in blocks\n"
    ++ (codes "\n"
    ++ (codes "Tables by hand:\n"
    ++ (codes "vx sql STATEMENT [--stats] [--blocks A..B]\n"
    ++ (codes "                       prints the rows of a statement of SQL over a block file, a folder of them, or a table of stdin\n"
    ++ (codes "vx explain sql STATEMENT [--json | --svg]\n"
    ++ (codes "                       prints what such a statement reads, and which blocks it skips\n"
    ++ (codes "vx write PATH [csv [--null TEXT] [--types TEXT]] [--rows N] [--force] < TABLE\n"
    ++ (codes "                       keeps a table of stdin, as JSON or as CSV, as a block file, or in a folder of them where PATH ends in /\n"
    ++ (codes "vx blocks PATH         prints the columns and the blocks of a block file, or of a folder of them\n"
    ++ (codes "\n"
    ++ (codes "Requests:\n"
    ++ (codes "vx scan < REQUEST      prints the selected rows, the skipped blocks and the columns read, as in: vx scan < examples/first.json\n"
    ++ (codes "vx scan built < REQ    prints the same by the statistics that the table has, as in: vx scan built < examples/built.json\n"
    ++ (codes "vx explain < REQUEST   prints what a scan does with its filter and its projection, as in: vx explain < examples/explain.json\n"
    ++ (codes "vx show HEX            prints the expression that the bytes spell, as in: vx show 04726f6f740000\n"
    ++ (codes "vx show tree HEX       prints it as a tree, as in: vx show tree 04726f6f740000\n"
    ++ (codes "vx show query HEX      prints the query that names it, as in: vx show query 04726f6f740000\n"
    ++ (codes "vx text QUERY          prints the bytes of the expression that a query names, as in: vx text 'x > 10i32'\n"
    ++ (codes "vx gen ROWS            prints what the scan of a generated table of so many rows gives, as in: vx gen 200\n"
    ++ (codes "vx top asc KEY K < REQ prints the first K rows by a column (desc: greatest first), as in: vx top desc price 2 < examples/catalog.json\n"
    ++ (codes "vx file < REQUEST      prints the table as a block file, two hexadecimal digits for each byte, as in: vx file < examples/file.json\n"
    ++ (codes "vx scan file < FILE    prints what scan does of a block file by two expressions, as in: vx scan file < examples/held.json\n"
    ++ (codes "\n"
    ++ (codes "vx --help, -h, help    prints this text\n"
    ++ (codes "vx --version, -V       prints the version\n"
    ++ (codes "exit status: 0 written whole, 2 wrong words, 3 no table, request or block file, 4 a refused statement, query or expression,\n"
    ++ (codes "5 a sum or cast without a value, 6 a path or an input that isn't read, 7 an output that isn't written, 8 no memory\n")))))))))))))))))))))))))))
