-- What honest statistics rule out holds no matching row.
use Rattle.std.specs.Prelude.{ℕ, ◌≡◌, true, false, List, Some, slice_get, length, map}
use Rattle.std.specs.List.{All}
use Rattle.vx_dtype.specs.Types.{Ty}
use Rattle.vx_dtype.specs.Values.{Val}
use Rattle.vx_dtype.specs.Logic.{is_true_val}
use Rattle.vx_dtype.specs.declared.BetweenOptions.{BetweenOptions}
use Rattle.vx_expr.specs.Trees.{Tree, between, not_of}
use Rattle.vx_expr.specs.Operators.{range_as_binary}
use Rattle.vx_semantics.specs.Meaning.{Slots, mean}
use Rattle.vx_semantics.specs.Tables.{Table, Zones}
use Rattle.vx_semantics.specs.Honest.{IsHonest}
use Rattle.vx_semantics.specs.Pruning.{rules_out}
use Rattle.vx_semantics.specs.Scans.{rows_of, kept_blocks, kept_of, kept_rows_of}

-- where the statistics are honest, a filter means true at no row of a block that it rules out
abbrev pub RuledOutIsNeverTrue : Type 0
RuledOutIsNeverTrue =
    (zones : Zones) (table : Table) (slots : Slots) (t : Ty) (filter_expr : Tree) (block : ℕ) (rows : List Val)
    → IsHonest zones table → slice_get table.blocks block ≡ Some rows → rules_out zones slots block filter_expr ≡ true
    → All (λ row. is_true_val (mean t slots row filter_expr) ≡ false) rows

-- where the statistics are honest, the rows of the kept blocks are all rows of the answer
abbrev pub KeptRowsAreAll : Type 0
KeptRowsAreAll =
    (zones : Zones) (table : Table) (slots : Slots) (filter_expr projection : Tree)
    → IsHonest zones table → kept_rows_of table zones slots filter_expr projection ≡ rows_of table slots filter_expr projection

-- where a table has as many blocks as the statistics have lengths, the numbers of its kept blocks are those that the statistics keep
abbrev pub KeptNumbersAreKeptBlocks : Type 0
KeptNumbersAreKeptBlocks =
    (zones : Zones) (table : Table) (slots : Slots) (filter_expr : Tree)
    → length table.blocks ≡ length zones.lengths → map (λ b. b.0) (kept_of table zones slots filter_expr) ≡ kept_blocks zones slots filter_expr

-- a range rules out what its two comparisons joined by `and` rule out, and so do the negations of both
abbrev pub RangeRulesOutAsItsComparisons : Type 0
RangeRulesOutAsItsComparisons =
    (zones : Zones) (slots : Slots) (block : ℕ) (e lower upper : Tree) (options : BetweenOptions)
    → (rules_out zones slots block (between e lower upper options) ≡ rules_out zones slots block (range_as_binary e lower upper options))
    × (rules_out zones slots block (not_of (between e lower upper options)) ≡ rules_out zones slots block (not_of (range_as_binary e lower upper options)))
