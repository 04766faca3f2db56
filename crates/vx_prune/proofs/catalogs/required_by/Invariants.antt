use Rattle.std.proofs.Common.{◌≡◌}
use Rattle.std.specs.List.{list_any}
use Rattle.vx_passes.specs.Falsifying.{Question}
use Rattle.vx_semantics.specs.Tables.{same_statistic}
use Rattle.vx_prune.specs.Required.{is_required}
use Rattle.vx_prune.proofs.catalogs.required_by.Given as goal

-- just the statistics so far are required
abbrev pub invariant-loop-path : goal.invariant-loop-path
invariant-loop-path l = (q : Question) → is_required l.required q ≡ list_any (same_statistic q) l.yielded
