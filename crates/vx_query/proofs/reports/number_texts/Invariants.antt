use Rattle.std.proofs.Common.{◌≡◌, map, take, decimal}
use Rattle.std.specs.String.{string_bytes}
use Rattle.vx_query.proofs.reports.number_texts.Given as goal

-- the texts so far are those of the numbers so far
abbrev pub invariant-loop-number : goal.invariant-loop-number
invariant-loop-number l = map string_bytes l.texts.items ≡ map decimal (take l.number-index l.fn.numbers)
