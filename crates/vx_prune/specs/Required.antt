-- The statistics that an expression needs, and what a pruning expression answers.
use Rattle.std.specs.Prelude.{◌≡◌, Bool, List, Option, Some, None}
use Rattle.std.specs.List.{list_any}
use Rattle.vx_dtype.specs.declared.Stat.{Stat}
use Rattle.vx_dtype.specs.Types.{Bytes}
use Rattle.vx_dtype.specs.Equal.{names_eq}
use Rattle.vx_expr.specs.Trees.{Tree}
use Rattle.vx_semantics.specs.Tables.{same_stat, same_statistic}
use Rattle.vx_passes.specs.Falsifying.{Question}
use Rattle.vx_passes.specs.PruningTables.{Pruning}
use Rattle.vx_prune.specs.declared.relations.Relation.{Relation}
use Rattle.vx_prune.specs.Relations.{has_pair, relation_map}

-- whether a statistic of a path is required
abbrev pub is_required : Relation (List Bytes) Stat → Question → Bool
is_required required q = has_pair names_eq same_stat (relation_map required) q.0 q.1

-- just these are required
abbrev pub Requires : List Question → Relation (List Bytes) Stat → Type 0
Requires questions required = (q : Question) → is_required required q ≡ list_any (same_statistic q) questions

-- the answer is the pruning expression and what it requires, and none where there is none
abbrev pub PrunesBy : Option Pruning → Option (Tree × Relation (List Bytes) Stat) → Type 0
PrunesBy None answer = answer ≡ None
PrunesBy (Some p) None = ⊥
PrunesBy (Some p) (Some answer) = (answer.0 ≡ p.tree) × Requires p.required answer.1
