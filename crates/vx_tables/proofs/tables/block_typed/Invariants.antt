use Rattle.std.proofs.Common.{◌≡◌, drop}
use Rattle.vx_dtype.specs.StructTypes.{field_types}
use Rattle.vx_tables.specs.Blocks.{block_typed, block_fits}
use Rattle.vx_tables.proofs.tables.block_typed.Given as goal

-- what is left to test
abbrev pub invariant-loop-i : goal.invariant-loop-i
invariant-loop-i l = (block_typed (field_types l.fn.fields) l.fn.columns ≡ block_typed (drop l.i (field_types l.fn.fields)) (drop l.i l.fn.columns)) × (block_fits l.fn.columns ≡ block_fits (drop l.i l.fn.columns))
