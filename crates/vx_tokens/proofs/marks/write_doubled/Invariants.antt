use Rattle.std.specs.List.{flat_map}
use Rattle.std.specs.Str.{encode_utf8_all}
use Rattle.std.specs.Fmt.{HasWritten, IsPlainFormatter}
use Rattle.vx_tokens.specs.Names.{doubled}
use Rattle.vx_tokens.proofs.marks.write_doubled.Given as goal

-- what was written of the characters so far
abbrev pub invariant-loop-c : goal.invariant-loop-c
invariant-loop-c g l =
    IsPlainFormatter l.fn.f → HasWritten g.W.Write.write_str_gives l.fn.f (flat_map (doubled l.mark) (encode_utf8_all l.yielded)) l.f
