-- For the checker: no public clause cites this.
-- What is held of a run of blocks, and the blocks that first rows skip by it.
use Rattle.std.specs.Prelude.{◌≡◌, ℕ, Bool, List, length, map}
use Rattle.std.specs.List.{range_with_len}
use Rattle.vx_semantics.specs.Pruning.{rules_out}
use Rattle.vx_semantics.specs.Tables.{Zones}
use Rattle.vx_laws_topk.specs.TopRows.{Keyed, TopAsk, bound_before, bound_slots, bounded_filter}
use Rattle.vx_topk.specs.declared.ruled_runs.RuledRun.{RuledRun}

-- what is held of the blocks of a run is what a test says of them
abbrev pub AreTold : (ℕ → Bool) → RuledRun → Type 0
AreTold says run = run.ruled.items ≡ map says (range_with_len run.first (length run.ruled.items))

-- it is what the bounded filter rules out with the bound behind the rows that were found: where some row is asked, which blocks are skipped
abbrev pub AreRuledBehind : TopAsk → Zones → List Keyed → RuledRun → Type 0
AreRuledBehind ask zones found run = AreTold (λ block. rules_out zones (bound_slots ask (bound_before ask found)) block (bounded_filter ask)) run
