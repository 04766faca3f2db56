use Rattle.std.proofs.Common.{◌≡◌, ◌++◌, codes, map, take}
use Rattle.std.specs.List.{flat_map}
use Rattle.std.specs.String.{string_bytes}
use Rattle.vx_display.proofs.spacing.with_others.Given as goal

-- behind the first the others so far stand, each behind a space
abbrev pub invariant-loop-text : goal.invariant-loop-text
invariant-loop-text l = string_bytes l.line ≡ l.fn.first ++ flat_map (λ t. codes " " ++ t) (map string_bytes (take l.text-index l.fn.others))
