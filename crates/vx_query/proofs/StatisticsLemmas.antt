-- What the statistics by which a scan goes leave of it: its table, its texts, and that its blocks agree with its zones.
use Rattle.std.proofs.Common.{◌≡◌, ◌∙◌, ap, true, length, None, Ok}
use Rattle.vx_dtype.specs.TypeRules.{field_names, distinct_names}
use Rattle.vx_dtype.specs.Types.{Bytes, Ty}
use Rattle.vx_expr.specs.Trees.{Tree}
use Rattle.vx_column.specs.Columns.{zip_rows}
use Rattle.vx_tables.specs.Blocks.{blocks_long, have_lengths, have_types, rows_of_columns, table_of_blocks, table_refusal}
use Rattle.vx_tables.proofs.BlockLemmas.{table_lengths}
use Rattle.vx_laws_stats.specs.BuiltStatistics.{built_zones}
use Rattle.vx_request.specs.Requests.{RequestedScan, request_of}
use Rattle.vx_scan.specs.declared.errors.ScanError.{ScanError}
use Rattle.vx_query.specs.BlockAgreement.{agree}
use Rattle.vx_query.specs.Running.{Statistics, given, built, HoldsScan, IsScanRefused, SpellsScan, scan_by, scan_table, type_of_scan}
use Rattle.vx_query.proofs.AnswerLemmas.{table_of_agreeing}
use Rattle.vx_query.proofs.CellLemmas.{and_left, and_right, both_true}

-- the rows of a block are as many as its zones tell
lengths_built : (a : RequestedScan) → have_lengths a.zones a.blocks ≡ true → (built_zones (scan_table a)).lengths ≡ a.zones.lengths
lengths_built a h = table_lengths a.zones.columns (length (field_names a.zones.columns)) a.zones.lengths a.blocks h

-- blocks that agree with the zones of a request do so with those by which its scan goes
pub agree_by : (chosen : Statistics) (a : RequestedScan) → agree (Ok a) ≡ true → agree (Ok (scan_by chosen a)) ≡ true
agree_by given a h = h
agree_by built a h =
    let lengths = and_left (have_lengths a.zones a.blocks) (have_types a.zones a.blocks) h in
    let types = and_right (have_lengths a.zones a.blocks) (have_types a.zones a.blocks) h in
    both_true (have_lengths (scan_by built a).zones a.blocks) (have_types a.zones a.blocks)
    (ap (λ ns. blocks_long (length (field_names a.zones.columns)) ns a.blocks) (lengths_built a lengths) ∙ lengths) types

-- and are a table with them
pub table_refused_by : (chosen : Statistics) (a : RequestedScan) → agree (Ok a) ≡ true → table_refusal (scan_by chosen a).zones a.blocks ≡ None
table_refused_by given a h = table_of_agreeing a.zones a.blocks h
table_refused_by built a h = table_of_agreeing (scan_by built a).zones a.blocks (agree_by built a h)

-- the table stays
pub table_built : (a : RequestedScan) → agree (Ok a) ≡ true → scan_table (scan_by built a) ≡ scan_table a
table_built a h =
    ap (λ ns. record { columns = a.zones.columns; blocks = zip_rows (rows_of_columns a.zones.columns) ns a.blocks })
    (lengths_built a (and_left (have_lengths a.zones a.blocks) (have_types a.zones a.blocks) h))

-- the names of its columns stay
pub names_by : (chosen : Statistics) (a : RequestedScan) → distinct_names (field_names a.zones.columns) ≡ true
    → distinct_names (field_names (scan_by chosen a).zones.columns) ≡ true
names_by given a h = h
names_by built a h = h

-- the zones by which a scan goes hang on its zones and its blocks alone
pub zones_by_same : (chosen : Statistics) (a b : RequestedScan) → a.zones ≡ b.zones → a.blocks ≡ b.blocks → (scan_by chosen a).zones ≡ (scan_by chosen b).zones
zones_by_same given a b zones blocks = zones
zones_by_same built a b zones blocks = λ i. built_zones (table_of_blocks (zones i) (blocks i))

-- a scan of these zones, and of the blocks and the texts of a request
pub scan_of_zones : (chosen : Statistics) (a b : RequestedScan) → b.zones ≡ (scan_by chosen a).zones → b.blocks ≡ a.blocks → b.filter ≡ a.filter
    → b.projection ≡ a.projection → b ≡ scan_by chosen a
scan_of_zones given a b zones blocks filter projection =
    λ i. record { zones = zones i; blocks = blocks i; filter = filter i; projection = projection i }
scan_of_zones built a b zones blocks filter projection =
    λ i. record { zones = zones i; blocks = blocks i; filter = filter i; projection = projection i }

-- its texts and its types stay: an input holds it where the texts of the scan by these statistics spell expressions of a type
pub holds_by : (chosen : Statistics) (input : Bytes) (a : RequestedScan) (f p : Tree) (t : Ty) → request_of input ≡ Ok a → SpellsScan (scan_by chosen a) f p
    → type_of_scan (scan_by chosen a) f p ≡ Ok t → HoldsScan input a f p
holds_by given input a f p t asked spelled typed = record { asked = asked; spelled = spelled; ty = t; typed = typed }
holds_by built input a f p t asked spelled typed = record { asked = asked; spelled = spelled; ty = t; typed = typed }

-- and so do the refusals of its expressions
pub refused_as : (chosen : Statistics) (a : RequestedScan) (e : ScanError) → IsScanRefused (scan_by chosen a) e → IsScanRefused a e
refused_as given a e h = h
refused_as built a e h = h
