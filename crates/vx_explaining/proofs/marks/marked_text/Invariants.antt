-- What was written of the characters so far.
use Rattle.std.proofs.Common.{◌≡◌}
use Rattle.std.specs.List.{flat_map}
use Rattle.std.specs.Str.{encode_utf8_all}
use Rattle.std.specs.String.{string_bytes}
use Rattle.vx_laws_explaining.specs.ExplainedPictures.{marked_byte}
use Rattle.vx_explaining.proofs.marks.marked_text.Given as goal

abbrev pub invariant-loop-c : goal.invariant-loop-c
invariant-loop-c l = string_bytes l.marked ≡ flat_map marked_byte (encode_utf8_all l.yielded)
