use Rattle.std.proofs.Common.{◌≡◌, ◌++◌}
use Rattle.vx_partition.specs.Entries.{numbered_entries}
use Rattle.vx_partition.proofs.EntryLemmas.{as_entries}
use Rattle.vx_partition.proofs.KeyLemmas.{keyed}
use Rattle.vx_partition.proofs.annotations.Annotations.of_numbered.Given as goal

-- the entries so far and those that are left are all of them
abbrev pub invariant-loop-annotated : goal.invariant-loop-annotated
invariant-loop-annotated g l = keyed (λ v. v.items) l.entries.entries ++ as_entries l.annotated-iterator ≡ numbered_entries l.fn.found
