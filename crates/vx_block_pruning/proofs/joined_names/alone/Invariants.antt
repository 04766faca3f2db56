use Rattle.std.proofs.Common.{◌≡◌, map, take}
use Rattle.std.specs.BTreeMap.{get}
use Rattle.std.specs.Cmp.Lexicographic.{slice_cmp}
use Rattle.std.specs.Ordering.{nat_cmp}
use Rattle.vx_prune.specs.Standing.{is_once}
use Rattle.vx_block_pruning.proofs.joined_names.alone.Given as goal

-- the names so far
abbrev pub invariant-loop-name : goal.invariant-loop-name
invariant-loop-name l = l.flags.items ≡ map (λ n. is_once (get (slice_cmp nat_cmp) l.fn.noted n)) (take l.name-index l.fn.names)
