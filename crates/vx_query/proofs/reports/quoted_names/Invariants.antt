use Rattle.std.proofs.Common.{◌≡◌, map, take}
use Rattle.std.specs.String.{string_bytes}
use Rattle.vx_dtype.specs.Texts.{quoted_text}
use Rattle.vx_query.proofs.reports.quoted_names.Given as goal

-- the texts so far are those of the names so far
abbrev pub invariant-loop-name : goal.invariant-loop-name
invariant-loop-name l = map string_bytes l.texts.items ≡ map quoted_text (take l.name-index l.fn.names)
