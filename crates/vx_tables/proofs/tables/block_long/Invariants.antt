use Rattle.std.proofs.Common.{◌≡◌, nat_eq, length, drop}
use Rattle.std.specs.List.{list_all}
use Rattle.vx_tables.proofs.tables.block_long.Given as goal

-- what is left to test
abbrev pub invariant-loop-column : goal.invariant-loop-column
invariant-loop-column l = list_all (λ c. nat_eq (length c.rows) l.fn.rows) l.fn.columns ≡ list_all (λ c. nat_eq (length c.rows) l.fn.rows) (drop l.column-index l.fn.columns)
