-- Which blocks a filter of the exact class skips: just those in which no values within the known bounds, chosen for each place of a path by itself,
-- make it true.
use Rattle.std.specs.Prelude.{ℕ, ◌≡◌, ◌<◌, nat_eq, Bool, true, false, List, [], length, slice_get, Some, Result, Ok, IfOk}
use Rattle.std.specs.List.{list_any}
use Rattle.std.specs.Bool.{Decides}
use Rattle.std.specs.declared.vec.Vec.{Vec}
use Rattle.std.specs.declared.alloc.Global.{Global}
use Rattle.vx_dtype.specs.declared.memory.NoMemory.{NoMemory}
use Rattle.vx_dtype.specs.Types.{Bytes, Ty}
use Rattle.vx_dtype.specs.Values.{Val}
use Rattle.vx_dtype.specs.Logic.{is_true_val}
use Rattle.vx_expr.specs.Trees.{Tree}
use Rattle.vx_semantics.specs.Typing.{typed_of}
use Rattle.vx_semantics.specs.Meaning.{Slots, mean}
use Rattle.vx_semantics.specs.Tables.{Zones, row_type}
use Rattle.vx_semantics.specs.Instances.{IsInstance}
use Rattle.vx_wire.specs.declared.encodings.ExprEncoding.{ExprEncoding}
use Rattle.vx_laws_scan.specs.Exactness.{is_exact_filter}
use Rattle.vx_laws_pruning.specs.PruningLaws.{AreAccepted}
use Rattle.vx_laws_pruning.specs.KnownBounds.{PathsHaveKnownBounds}
use Rattle.vx_block_pruning.specs.BlocksRuledOut.{blocks_ruled_out}
use Rattle.vx_scan.specs.Stores.{StoreSeen}
use Rattle.vx_scan.specs.Texts.{SpellBoth}
use Rattle.vx_scan.specs.Reports.{Report, report_view}
use Rattle.vx_scan.specs.Scanning.{IsReport, IsScan}
use Rattle.vx_scan.specs.declared.reports.ScanReport.{ScanReport}

-- no instance of a filter at a block means true: whichever constants between its bounds stand at each place of a path
abbrev pub NoInstanceIsTrue : Zones → Slots → ℕ → Tree → Val → Type 0
NoInstanceIsTrue zones slots block filter_expr row =
    (instance_expr : Tree) → IsInstance zones block filter_expr instance_expr → is_true_val (mean (row_type zones.columns) slots row instance_expr) ≡ false

-- a flag is the one that is exact for the block, where the bounds of the filter's paths are known there, and in order
abbrev pub IsExactFlag : Zones → Slots → ℕ → Tree → Bool → Type 0
IsExactFlag zones slots block filter_expr flag =
    PathsHaveKnownBounds zones block filter_expr → (row : Val) → Decides flag (NoInstanceIsTrue zones slots block filter_expr row)

-- what `ruled_out` answers of a strictly typed filter of the exact class over accepted zones: each of its flags is exact
abbrev pub RuledOutIsExact : Type 0
RuledOutIsExact =
    (zones : Zones) (slots : Slots) (filter_expr : Tree) (u : Ty) (answer : Result (Vec Bool Global) NoMemory)
    → AreAccepted zones → is_exact_filter filter_expr ≡ true → typed_of (row_type zones.columns) filter_expr ≡ Ok u
    → IfOk answer (λ flags. flags.items ≡ blocks_ruled_out zones slots filter_expr)
    → IfOk answer (λ flags. (block : ℕ) (flag : Bool) → slice_get flags.items block ≡ Some flag → IsExactFlag zones slots block filter_expr flag)

-- whether a report says that a block was skipped
abbrev pub is_among : List ℕ → ℕ → Bool
is_among blocks block = list_any (nat_eq block) blocks

-- the report of a scan by such a filter over such zones: whether it says that a block was skipped is exact
abbrev pub ScansSkipExactly : Type 0
ScansSkipExactly =
    (slots : Slots) (filter_expr projection : Tree) (before after : StoreSeen) (report : Report) (block : ℕ)
    → AreAccepted before.zones → is_exact_filter filter_expr ≡ true → IsReport slots filter_expr projection before after report
    → block < length before.zones.lengths → IsExactFlag before.zones slots block filter_expr (is_among report.skipped block)

-- and so of a scan of texts that spell such a filter
abbrev pub TextScansSkipExactly : Type 0
TextScansSkipExactly =
    (holds : ExprEncoding → Bool) (filter_text projection_text : Bytes) (filter_expr projection : Tree) (before after : StoreSeen) (report : ScanReport)
    (block : ℕ)
    → AreAccepted before.zones → is_exact_filter filter_expr ≡ true → SpellBoth holds filter_text projection_text filter_expr projection
    → IsScan holds filter_text projection_text before after (Ok report)
    → block < length before.zones.lengths → IsExactFlag before.zones [] block filter_expr (is_among report.skipped block)
