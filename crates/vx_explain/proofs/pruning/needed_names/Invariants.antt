use Rattle.std.proofs.Common.{◌≡◌, map, take}
use Rattle.std.specs.List.{filter}
use Rattle.std.specs.String.{string_bytes}
use Rattle.vx_dtype.specs.Texts.{quoted_text}
use Rattle.vx_semantics.specs.Tables.{joined_name}
use Rattle.vx_prune.specs.Required.{is_required}
use Rattle.vx_explain.proofs.pruning.needed_names.Given as goal

-- the names of the required statistics so far
abbrev pub invariant-loop-stat : goal.invariant-loop-stat
invariant-loop-stat l =
    map string_bytes l.names.items
    ≡ map (λ z. quoted_text (joined_name z.path z.stat)) (filter (λ z. is_required l.fn.required (z.path, z.stat)) (take l.stat-index l.fn.stats))
