use Rattle.std.proofs.Common.{◌≡◌, ◌++◌, true, length, ap, subst, ◌∙◌, append_assoc, arith}
use Rattle.std.specs.Str.{is_utf8}
use Rattle.std.proofs.lemmas.Str.{is_utf8-from_IsUtf8}
use Rattle.vx_wire_bytes.specs.Numbers.{number_bytes}
use Rattle.vx_dtype.specs.Types.{Bytes}
use Rattle.vx_wire.proofs.spelling.push_name.Goals as goal

pub returns-clause-ok : goal.returns-clause-ok
returns-clause-ok c =
    let same : c.as_bytes-bytes.result.now ≡ c.args.name.now = c.as_bytes-bytes.ensures.value ∙ c.as_str.ensures in
    let text : is_utf8 c.args.name.now ≡ true = subst (λ s. is_utf8 s ≡ true) c.as_str.ensures (is_utf8-from_IsUtf8 c.as_str.result.now c.as_str.utf8) in (
      record { utf8 = text; short = omega (arith, ap length same, c.if-bytes-ge-LONG.false) },
      c.in_ok-extend_from_slice.ensures.items ∙ ap (λ (b : Bytes). b ++ c.as_bytes-bytes.result.now) c.in_ok-write_number.ensures.ok ∙ append_assoc c.args.out.now.items (number_bytes (length c.as_bytes-bytes.result.now)) c.as_bytes-bytes.result.now
          ∙ ap (λ (b : Bytes). c.args.out.now.items ++ (number_bytes (length b) ++ b)) same,
    )
