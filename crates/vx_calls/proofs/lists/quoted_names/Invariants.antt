-- The names so far, each within quotes.
use Rattle.std.proofs.Common.{◌≡◌, map, take}
use Rattle.std.specs.String.{string_bytes}
use Rattle.vx_dtype.specs.Texts.{quoted_text}
use Rattle.vx_calls.proofs.lists.quoted_names.Given as goal

abbrev pub invariant-loop-name : goal.invariant-loop-name
invariant-loop-name l = map string_bytes l.texts.items ≡ map quoted_text (take l.name-index l.fn.names)
