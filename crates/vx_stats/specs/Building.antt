-- What is answered where statistics are to be built.
use Rattle.std.specs.Prelude.{◌≡◌, List, Some, None, Result, Ok, Err}
use Rattle.vx_column.specs.Columns.{Column}
use Rattle.vx_semantics.specs.Tables.{Zones}
use Rattle.vx_tables.specs.Blocks.{table_of_blocks, table_refusal}
use Rattle.vx_tables.specs.declared.errors.TableError.TheVariants as refusals
use Rattle.vx_laws_stats.specs.BuiltStatistics.{built_zones}
use Rattle.vx_stats.specs.declared.errors.StatsError.{StatsError}
use Rattle.vx_stats.specs.declared.errors.StatsError.TheVariants.{NoMemory, WrongLength, WrongType}

-- the answer is the zones that the rows of the table have, where the blocks are one with these zones; else their refusal; want of memory may be
-- answered at any time
abbrev pub AnswersBuilt : Zones → List (List Column) → Result Zones StatsError → Type 0
AnswersBuilt zones blocks (Ok built) = (built ≡ built_zones (table_of_blocks zones blocks)) × (table_refusal zones blocks ≡ None)
AnswersBuilt zones blocks (Err NoMemory) = Unit {0}
AnswersBuilt zones blocks (Err WrongLength) = table_refusal zones blocks ≡ Some refusals.WrongLength
AnswersBuilt zones blocks (Err WrongType) = table_refusal zones blocks ≡ Some refusals.WrongType
