-- What is answered where a store in memory is to be made.
use Rattle.std.specs.Prelude.{◌≡◌, ℕ, List, [], Some, None, Result, Ok, Err}
use Rattle.vx_column.specs.Columns.{Column}
use Rattle.vx_semantics.specs.Tables.{Zones}
use Rattle.vx_tables.specs.declared.errors.TableError.{TableError}
use Rattle.vx_tables.specs.declared.errors.TableError.TheVariants.{NoMemory}
use Rattle.vx_tables.specs.Blocks.{table_refusal}
use Rattle.vx_scan.specs.StoreViews.{StoreState}

-- a store of these columns that wasn't read yet
abbrev pub new_store : Zones → List (List Column) → List ℕ → StoreState
new_store z bs ns = record { zones = z; blocks = bs; listed = ns; calls = 0; reads = []; failed = None; faults = 0 }

-- the answer is the store where the blocks are a table with these zones, else their refusal; want of memory may be answered at any time
abbrev pub MakesStore : Zones → List (List Column) → List ℕ → Result StoreState TableError → Type 0
MakesStore zones blocks listed (Ok store) = (store ≡ new_store zones blocks listed) × (table_refusal zones blocks ≡ None)
MakesStore zones blocks listed (Err NoMemory) = Unit {0}
MakesStore zones blocks listed (Err e) = table_refusal zones blocks ≡ Some e
