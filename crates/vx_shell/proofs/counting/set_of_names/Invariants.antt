-- The set has just the names of the reads so far.
use Rattle.std.proofs.Common.{◌≡◌, List, ℕ, map, take}
use Rattle.std.specs.HashSet.{contains}
use Rattle.std.specs.List.{list_any}
use Rattle.std.specs.Str.{bytes_eq}
use Rattle.vx_scan.specs.StoreViews.{entry_view}
use Rattle.vx_shell.proofs.counting.set_of_names.Given as goal

abbrev pub invariant-loop-entry : goal.invariant-loop-entry
invariant-loop-entry l =
    (name : List ℕ) → contains bytes_eq l.read name ≡ list_any (λ r. bytes_eq name r.1) (map entry_view (take l.entry-index l.reads))
