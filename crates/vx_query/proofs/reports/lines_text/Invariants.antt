use Rattle.std.proofs.Common.{◌≡◌, map, take}
use Rattle.std.specs.List.{flat_map}
use Rattle.std.specs.String.{string_bytes}
use Rattle.vx_query.specs.Reports.{line}
use Rattle.vx_query.proofs.reports.lines_text.Given as goal

-- the lines so far are the texts so far
abbrev pub invariant-loop-text : goal.invariant-loop-text
invariant-loop-text l = string_bytes l.lines ≡ flat_map line (map string_bytes (take l.text-index l.fn.texts))
